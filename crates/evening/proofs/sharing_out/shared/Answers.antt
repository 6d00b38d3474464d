use Rattle.std.proofs.Common.{◌≡◌, ◌++◌, length, take, drop, vec_items, ◌∙◌, subst, arith, w64, SFits, rules}
use Rattle.std.proofs.lemmas.List.{take_all, take-append-le}
use Rattle.std.proofs.lemmas.Int.{to_z-of_z}
use Rattle.sharing.specs.Sharing.{Ready, Shared}
use Rattle.evening.proofs.sharing_out.shared.Goals as goal

pub returns : goal.returns
returns g c =
    let task = c.args.task.now in
    let f = task.amount in
    let ws = vec_items task.weights in
    let table = c.in_ok-shares.shares in
    let made = c.in_ok-shares.ensures.len in
    let weights = task.weights.ok.0 in
    let cells : length c.as_mut_slice.result.now ≡ length ws = omega arith in
    let fits : SFits w64 f = search rules in
    let ready : Ready f ws (length c.as_mut_slice.result.now) = record { within = task.within; cells = cells } in
    let here = simp to_z-of_z at c.share-rest.ensures in
    let shared : Shared (g.R.SharingRule.meaning c.args.rule.now) f ws c.as_mut_slice.result.now c.share-rest.new.shares c.share-rest.result =
    subst (λ xs. Shared (g.R.SharingRule.meaning c.args.rule.now) f xs c.as_mut_slice.result.now c.share-rest.new.shares c.share-rest.result) c.as_slice.ensures.value here in
    let kept = c.share-rest.auto.shares in
    let all : take table.len (c.share-rest.new.shares ++ drop (length c.share-rest.new.shares) table.items) ≡ c.share-rest.new.shares =
    take-append-le table.len c.share-rest.new.shares _ (omega arith) ∙ take_all table.len c.share-rest.new.shares (omega arith) in
    let answer : SFits w64 c.share-rest.result = search rules in
    record { shares = all ∙ shared.writes ready; rest = to_z-of_z w64 c.share-rest.result answer ∙ shared.leaves ready }
