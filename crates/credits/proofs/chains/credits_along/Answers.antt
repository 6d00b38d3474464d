use Rattle.std.proofs.Common.{sym, ap, ◌∙◌, w64, SFits, rules}
use Rattle.std.proofs.lemmas.Result.{err_from_is_err_and}
use Rattle.std.proofs.lemmas.Int.{to_z-of_z}
use Rattle.contracts.specs.Chains.{row_at}
use Rattle.contracts.proofs.Sounds.{sound_of}
use Rattle.credits.specs.Faults.{row_fault}
use Rattle.credits.specs.Legs.{row_credit}
use Rattle.credits.proofs.Crediting.{crediting_more, crediting_room, crediting_fault, crediting_all}
use Rattle.credits.proofs.chains.credits_along.Goals as goal

pub returns-in_err-row_credit : goal.returns-in_err-row_credit
returns-in_err-row_credit c is chain =
    let step = c.in-Some.ensures.steps in
    let here = step.1.1 ∙ ap (λ rs. row_at rs c.in-Some.field-0-0) c.loop-row.invariant.same_rows in
    let wrong = ap (row_fault c.args.nodes.now) (sym here) ∙ c.in_err-row_credit.ensures.answer in
    let p = err_from_is_err_and c.from_residual.result c.from_residual.ensures.1 in
    rw (p.1, p.2) (crediting_fault _ _ _ _ _ _ _ _ step.1.0 wrong c.loop-row.invariant.walked is chain)

pub push-requires : goal.push-requires
push-requires c =
    let step = c.in-Some.ensures.steps in
    crediting_room _ _ _ _ _ _ _ (sound_of _ c.args.walk.sound) c.args.walk.inside step.1.0 c.loop-row.invariant.walked

pub loop-row-preserved : goal.loop-row-preserved
loop-row-preserved c =
    let step = c.in-Some.ensures.steps in
    let rows = c.loop-row.invariant.same_rows in
    let here = step.1.1 ∙ ap (λ rs. row_at rs c.in-Some.field-0-0) rows in
    let fits : SFits w64 c.in_ok-row_credit.field-0 = search rules in
    let answer = c.in_ok-row_credit.ensures.answer in
    let sound = ap (row_fault c.args.nodes.now) (sym here) ∙ answer.0 in
    let value = to_z-of_z w64 _ fits ∙ answer.1 ∙ ap (row_credit c.args.nodes.now c.args.quantity.milli_mwh) here in
    let onward = step.1.2 ∙ ap (λ r. r.next) here in
    record {
      same_rows = step.0 ∙ rows;
      walked = rw c.push.ensures (crediting_more _ _ _ _ _ _ _ _ _ step.1.0 onward sound value c.loop-row.invariant.walked);
    }

pub returns : goal.returns
returns c = crediting_all _ _ _ _ _ _ (search rules) c.loop-row.invariant.walked
