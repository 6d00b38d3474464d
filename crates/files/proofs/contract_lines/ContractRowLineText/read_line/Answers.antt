use Rattle.std.proofs.Common.{sym, subst, inl, inr}
use Rattle.files.specs.Fields.{Front}
use Rattle.files.specs.Lines.{contract_line, WritableRow}
use Rattle.files.specs.FieldByField.{contract_front, no_contract}
use Rattle.files.proofs.contract_lines.ContractRowLineText.read_line.Goals as goal

pub returns-in_err-party : goal.returns-in_err-party
returns-in_err-party c =
    rw c.from_residual.ensures (no_contract c.args.bytes.now (inl c.in_err-party.ensures))

pub returns-in_err-capacity : goal.returns-in_err-capacity
returns-in_err-capacity c =
    rw c.from_residual-in_err-capacity.ensures (no_contract c.args.bytes.now (inr (_, _, c.in_ok-party.ensures, inl c.in_err-capacity.ensures)))

pub returns-in_err-receipt : goal.returns-in_err-receipt
returns-in_err-receipt c =
    rw c.from_residual-in_err-receipt.ensures (no_contract c.args.bytes.now (inr (_, _, c.in_ok-party.ensures, inr (_, _, c.in_ok-capacity.ensures, inl c.in_err-receipt.ensures))))

pub returns-in_err-delivery : goal.returns-in_err-delivery
returns-in_err-delivery c =
    rw c.from_residual-in_err-delivery.ensures (no_contract c.args.bytes.now (inr (_, _, c.in_ok-party.ensures, inr (_, _, c.in_ok-capacity.ensures, inr (_, _, c.in_ok-receipt.ensures, inl c.in_err-delivery.ensures)))))

pub returns-in_err-next : goal.returns-in_err-next
returns-in_err-next c =
    rw c.from_residual-in_err-next.ensures (no_contract c.args.bytes.now (inr (_, _, c.in_ok-party.ensures, inr (_, _, c.in_ok-capacity.ensures, inr (_, _, c.in_ok-receipt.ensures, inr (_, _, c.in_ok-delivery.ensures, inl c.in_err-next.ensures))))))

pub returns : goal.returns
returns c =
    subst (λ row. Front contract_line WritableRow c.args.bytes.now row c.in_ok-next.rest.now) (sym c.row_of.ensures)
    (contract_front _ _ _ _ _ _ _ _ _ _ _ c.in_ok-party.ensures c.in_ok-capacity.ensures c.in_ok-receipt.ensures c.in_ok-delivery.ensures c.in_ok-next.ensures)
