use Rattle.std.proofs.Common.{string_bytes}
use Rattle.contract_report.proofs.Joining.{Printed}
use Rattle.contract_report.proofs.chains.table_text.Given as goal

abbrev pub invariant-loop-place : goal.invariant-loop-place
invariant-loop-place l = Printed l.table.rows.now l.place (string_bytes l.text)
