use Rattle.std.proofs.Common.{◌≡◌, [], string_bytes}
use Rattle.contracts.proofs.Folding.{Folding}
use Rattle.contract_report.proofs.Joining.{with_line}
use Rattle.contract_report.proofs.chains.chain_text.Given as goal

abbrev pub invariant-loop-place : goal.invariant-loop-place
invariant-loop-place l =
    (l.place-iterator.rows.now ≡ l.walk.rows.now) × Folding (with_line l.walk.rows.now l.head) l.walk.rows.now l.walk.place [] l.place-iterator.place (string_bytes l.text)
