use Rattle.std.proofs.Common.{◌≡◌, pos, ◌*ℤ◌, slice_index, sum, ◌∙◌, mul-le-mul_right, arith, w64, to_z, of_z}
use Rattle.std.proofs.lemmas.Int.{fits_signed_mul, ints, to_z-of_z, unsigned_abs-mul}
use Rattle.rounding.proofs.HalfUp.{nearest_le}
use Rattle.sharing.specs.Rate.{rate_at}
use Rattle.sharing.proofs.division.Division.nearest_share.Goals as goal

value : (c : goal.After-nearest_by) → to_z w64 (of_z w64 c.nearest_by.result) ≡ rate_at c.args.self.now.amount c.args.self.now.weights.now c.args.i
value c =
    let d = c.args.self.now in
    let f = d.amount in
    let w = slice_index d.weights.now c.args.i in
    let t = sum d.weights.now in
    let amount : to_z w64 (of_z w64 f) ≡ f = to_z-of_z w64 f (omega (arith, ints, d.within.size)) in
    let weight : to_z w64 (of_z w64 c.from.result) ≡ pos w = to_z-of_z w64 c.from.result (omega (arith, ints)) ∙ c.from.ensures in
    let product : to_z w64 (of_z w64 (f *ℤ pos w)) ≡ f *ℤ pos w = to_z-of_z w64 (f *ℤ pos w) (fits_signed_mul w64 f (pos w) 1000000000 4294967296 d.within.size (omega arith) (omega arith)) in
    to_z-of_z w64 c.nearest_by.result (omega (arith, ints))
    ∙ rw (amount, weight, product, d.all) at c.nearest_by.ensures.value

pub returns-clause-value : goal.returns-clause-value
returns-clause-value c = value c

pub returns-clause-small : goal.returns-clause-small
returns-clause-small c =
    let d = c.args.self.now in
    let f = d.amount in
    let w = slice_index d.weights.now c.args.i in
    rw (value c) (omega (arith, nearest_le (f *ℤ pos w) (sum d.weights.now) d.within.some, unsigned_abs-mul f (pos w), mul-le-mul_right w d.within.size))
