use Rattle.std.proofs.Common.{rules}
use Rattle.contract_report.proofs.Joining.{printed_none, printed_more}
use Rattle.contract_report.proofs.chains.table_text.Goals as goal

pub loop-place-init : goal.loop-place-init
loop-place-init c = printed_none _ _ (search rules)

pub loop-place-preserved : goal.loop-place-preserved
loop-place-preserved c = printed_more _ _ _ _ _ c.in_ok-part.ensures (search rules) c.loop-place.invariant
