use Rattle.std.proofs.Common.{◌≡◌, ◌≤◌, nat_abs, arith, w64, to_z, of_z}
use Rattle.std.proofs.lemmas.Int.{to_z-of_z}
use Rattle.std.specs.Int.NonZero.{non_zero_u64_get}
use Rattle.rounding.specs.Nearest.{half_up, nearest}
use Rattle.rounding.proofs.HalfUp.{half_up_le}
use Rattle.rounding.proofs.Law.{rounded}
use Rattle.rounding.proofs.halves.nearest_quotient.Goals as goal

pub unwrap-requires : goal.unwrap-requires
unwrap-requires c =
    let d = non_zero_u64_get c.args.d in
    let small : half_up (nat_abs c.args.n) d ≤ nat_abs c.args.n = half_up_le (nat_abs c.args.n) d c.args.d.ok in
    grind (arith, to_z-of_z)

pub returns : goal.returns
returns c =
    let d = non_zero_u64_get c.args.d in
    let value : to_z w64 (of_z w64 c.unwrap.result) ≡ nearest c.args.n d = grind (arith, to_z-of_z) in
    rounded c.args.n d c.args.d.ok _ value
