use Rattle.std.proofs.Common.{◌≡◌, ◌+◌, length, pos, nat_abs, ap, ◌∙◌, arith, w64, to_z, of_z}
use Rattle.std.proofs.lemmas.Int.{to_z-of_z}
use Rattle.std.proofs.lemmas.List.Edits.{fill_by_more}
use Rattle.std.proofs.lemmas.List.Sums.{sum_by_more, sum_by-take-le}
use Rattle.sharing.specs.Sharing.{portion}
use Rattle.sharing.specs.Running.{running, running_at, running_cents, reached}
use Rattle.sharing.specs.ByPlace.{written}
use Rattle.sharing.specs.Upto.{upto_part}
use Rattle.sharing.specs.RunningLaw.{reached_up, running_all, running_exact, running_law}
use Rattle.sharing.proofs.running.share_by_running.Goals as goal
use Rattle.sharing.proofs.running.share_by_running.Goals.{After-portion-reached}

-- what the weights up to here get together
here : (c : After-portion-reached) → c.portion-reached.result ≡ reached (nat_abs c.args.division.now.amount) c.args.division.now.weights.now (c.loop-i.i + 1)
here c =
    let d = c.args.division.now in
    let weighed = sum_by_more (λ x. x) d.weights.now c.loop-i.i 0 (omega arith) in
    c.portion-reached.ensures ∙ ap (portion (nat_abs d.amount) d.weights.now) (omega arith)

pub portion-reached-requires : goal.portion-reached-requires
portion-reached-requires c =
    let d = c.args.division.now in
    let ws = d.weights.now in
    let i = c.loop-i.i in
    omega (arith, d.within.most, sum_by_more (λ x. x) ws i 0 (omega arith), sum_by-take-le (λ x. x) ws (i + 1))

pub step-requires-clause-within : goal.step-requires-clause-within
step-requires-clause-within c =
    let d = c.args.division.now in
    let ws = d.weights.now in
    let m = nat_abs d.amount in
    let i = c.loop-i.i in
    omega (arith, here c, reached_up m ws d.within.some i, upto_part (running_cents m ws) (length ws) i m (running_all m ws d.within.some) (omega arith))

pub loop-i-preserved : goal.loop-i-preserved
loop-i-preserved c =
    let d = c.args.division.now in
    let ws = d.weights.now in
    let i = c.loop-i.i in
    let s = running_at d.amount ws in
    let so = here (goal.at.loop-i-preserved c).After-portion-reached in
    let share : to_z w64 (of_z w64 c.step.result) ≡ s i = grind (arith, to_z-of_z) in
    record {
      written = rw share (fill_by_more s c.loop-i.shares i (pos 0) (omega arith) c.loop-i.invariant.written);
      weighed = omega (arith, sum_by_more (λ x. x) ws i 0 (omega arith));
      handed = so;
    }

pub returns : goal.returns
unfolding running
returns c =
    let d = c.args.division.now in
    let f = d.amount in
    let ws = d.weights.now in
    let done : c.loop-i.shares ≡ running f ws = written (running_at f ws) ws c.loop-i.shares c.loop-i.i (omega arith) (omega arith) c.loop-i.invariant.written in
    record { shares = done; rest = running_exact f ws d.within; law = rw done (running_law f ws d.within) }
