use Rattle.std.proofs.Common.{[], ap, ◌∙◌, rules}
use Rattle.contracts.proofs.Folding.{folding_none, folding_all}
use Rattle.contract_report.specs.Report.{row_line}
use Rattle.contract_report.proofs.Joining.{with_line, with_line_more, folded_joined}
use Rattle.contract_report.proofs.chains.chain_text.Goals as goal

pub loop-place-init : goal.loop-place-init
loop-place-init c =
    let same = c.into_iter-place-iterator.ensures.into_iter_gives in (
      ap (λ w. w.rows.now) same,
      rw c.new-text.ensures.bytes (folding_none (with_line c.args.walk.rows.now c.args.head) c.args.walk.rows.now _ [] _ (ap (λ w. w.place) same)),
    )

pub loop-place-preserved : goal.loop-place-preserved
loop-place-preserved c =
    let step = c.in-Some.ensures.steps in (
      search rules,
      with_line_more _ c.loop-place.place-iterator.rows.now _ _ c.in-Some.place c.loop-place.place-iterator.place c.next.new.self.place c.in-Some.row _ _ c.loop-place.invariant.0 step.1.0 step.1.1 step.1.2 c.in_ok-add_line.ensures c.loop-place.invariant.1,
    )

pub returns : goal.returns
returns c is chain =
    folding_all (with_line c.args.walk.rows.now c.args.head) c.args.walk.rows.now _ [] _ _ (search rules) c.loop-place.invariant.1 is chain ∙ folded_joined (row_line c.args.walk.rows.now c.args.head) [] is
