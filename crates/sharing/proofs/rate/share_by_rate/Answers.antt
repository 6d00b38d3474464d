use Rattle.std.proofs.Common.{◌≡◌, ◌+◌, length, pos, arith, w64, to_z, of_z}
use Rattle.std.proofs.lemmas.List.Edits.{fill_by_more}
use Rattle.std.proofs.lemmas.Int.{ints, to_z-of_z}
use Rattle.std.proofs.lemmas.List.Sums.{sum_by_more, sum_by-take-le}
use Rattle.sharing.specs.Sharing.{rest_of}
use Rattle.sharing.specs.Rate.{rate, rate_at}
use Rattle.sharing.specs.ByPlace.{added_to_more, written}
use Rattle.sharing.specs.RateLaw.{rate_law}
use Rattle.sharing.proofs.rate.share_by_rate.Goals as goal

pub loop-i-preserved : goal.loop-i-preserved
loop-i-preserved c =
    let d = c.args.division.now in
    let ws = d.weights.now in
    let i = c.loop-i.i in
    let s = rate_at d.amount ws in
    let here : to_z w64 (of_z w64 c.nearest_share.result) ≡ s i = grind (arith, to_z-of_z) in
    let more = added_to_more s i in
    let weight = sum_by_more (λ x. x) ws i 0 (omega arith) in
    let part = sum_by-take-le (λ x. x) ws (i + 1) in
    let again : to_z w64 (of_z w64 (s i)) ≡ s i = rw here at (to_z-of_z w64 (to_z w64 (of_z w64 c.nearest_share.result)) (omega (arith, ints))) in
    record {
      written = rw here (fill_by_more s c.loop-i.shares i (pos 0) (omega arith) c.loop-i.invariant.written);
      left = rw (here, again) (omega (arith, ints));
      few = omega (arith, ints);
    }

pub returns : goal.returns
unfolding rate rest_of
returns c =
    let d = c.args.division.now in
    let f = d.amount in
    let ws = d.weights.now in
    let end : c.loop-i.i ≡ length ws = omega arith in
    let done : c.loop-i.shares ≡ rate f ws = written (rate_at f ws) ws c.loop-i.shares c.loop-i.i (omega arith) (omega arith) c.loop-i.invariant.written in
    record { shares = done; rest = rw end at c.loop-i.invariant.left; law = rw done (rate_law f ws d.within) }
