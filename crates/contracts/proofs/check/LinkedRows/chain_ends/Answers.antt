use Rattle.std.proofs.Common.{[], refl, rules}
use Rattle.contracts.specs.Chains.{done}
use Rattle.contracts.proofs.Marking.{walking_more, walking_ends, walking_stopped, unseen_falls}
use Rattle.contracts.proofs.check.LinkedRows.chain_ends.Goals as goal

pub returns-in-Some-walks : goal.returns-in-Some-walks
returns-in-Some-walks c =
    let walking = c.loop-place.invariant.walking in
    let here = rw c.in-Some.is at walking in
    let stopped = walking_stopped _ _ _ _ _ (search rules) here in
    record { ends = stopped.0; walked = stopped.1 }

pub loop-place-smaller : goal.loop-place-smaller
loop-place-smaller c = unseen_falls c.loop-place.walks c.in-Some.row c.args.first (search rules) (search rules)

pub loop-place-preserved : goal.loop-place-preserved
loop-place-preserved c =
    let walking = c.loop-place.invariant.walking in
    let here = rw c.in-Some.is at walking in
    record { inside = search rules; sized = search rules; walking = walking_more _ _ _ _ (search rules) here }

pub returns : goal.returns
returns c =
    let walking = c.loop-place.invariant.walking in
    let here = rw c.in_default.is at walking in
    record { ends = (λ _. here.back [] done, λ _. refl); walked = λ _. walking_ends _ _ _ _ _ done here }
