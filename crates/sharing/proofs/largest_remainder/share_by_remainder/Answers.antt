use Rattle.std.proofs.Common.{◌≡◌, length, pos, nat_abs, arith, w64, to_z, of_z}
use Rattle.std.proofs.lemmas.Int.{to_z-of_z}
use Rattle.std.proofs.lemmas.List.Edits.{fill_by_more}
use Rattle.sharing.specs.LargestRemainder.{largest, largest_at, largest_cents}
use Rattle.sharing.specs.ByPlace.{written}
use Rattle.sharing.specs.Upto.{upto_part}
use Rattle.sharing.specs.LargestLaw.{largest_all, largest_exact, largest_law}
use Rattle.sharing.proofs.largest_remainder.share_by_remainder.Goals as goal

pub signed-requires : goal.signed-requires
signed-requires c =
    let d = c.args.division.now in
    let ws = d.weights.now in
    let m = nat_abs d.amount in
    omega (arith, upto_part (largest_cents m ws) (length ws) c.loop-i.i m (largest_all m ws d.within.some) (omega arith))

pub loop-i-preserved : goal.loop-i-preserved
loop-i-preserved c =
    let d = c.args.division.now in
    let s = largest_at d.amount d.weights.now in
    let here : to_z w64 (of_z w64 c.signed.result) ≡ s c.loop-i.i = grind (arith, to_z-of_z) in
    rw here (fill_by_more s c.loop-i.shares c.loop-i.i (pos 0) (omega arith) c.loop-i.invariant)

pub returns : goal.returns
unfolding largest
returns c =
    let d = c.args.division.now in
    let f = d.amount in
    let ws = d.weights.now in
    let done : c.loop-i.shares ≡ largest f ws = written (largest_at f ws) ws c.loop-i.shares c.loop-i.i (omega arith) (omega arith) c.loop-i.invariant in
    record { shares = done; rest = largest_exact f ws d.within; law = rw done (largest_law f ws d.within) }
