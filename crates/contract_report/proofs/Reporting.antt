-- The report of a table by the check's one right answer. Assumes nothing.
use Rattle.std.proofs.Common.{◌≡◌, ℕ, List, length, Ok, Err, Result, refl, ap, ◌∙◌, arith}
use Rattle.contracts.specs.declared.rows.ContractRow.{ContractRow}
use Rattle.contracts.specs.declared.faults.TableFault.{TableFault}
use Rattle.contracts.specs.Check.{Judged, Fails, OneAnswer}
use Rattle.contracts.specs.Refusals.{table_refusal}
use Rattle.contract_report.specs.Report.{ChainsText, Report, refusal_line}

-- no count is a fault
ok_not_err : (n : ℕ) (f : TableFault) → Ok n ≡ Err f → ⊥
ok_not_err n f e = let z : ◌≡◌ {A = ℕ} 0 1 = cc in omega arith

pub report_passed : (rows : List ContractRow) (n : ℕ) (text : List ℕ) → OneAnswer rows → Judged rows (Ok n) → ChainsText rows text → Report rows text
report_passed rows n text one checked chains =
    record {
      passes = λ _. chains;
      fails = λ fault wrong. absurd (ok_not_err n fault (one (Ok n) (Err fault) checked wrong));
    }

err_one : (f g : TableFault) → ◌≡◌ {A = Result ℕ TableFault} (Err f) (Err g) → f ≡ g
err_one f g e = cc

pub report_refused : (rows : List ContractRow) (f : TableFault) (text : List ℕ) → OneAnswer rows → Fails rows f → text ≡ refusal_line (table_refusal f) → Report rows text
report_refused rows f text one wrong e =
    record {
      passes = λ s. absurd (ok_not_err (length rows) f (one (Ok (length rows)) (Err f) (s, refl) wrong));
      fails = λ g other. e ∙ ap (λ h. refusal_line (table_refusal h)) (err_one f g (one (Err f) (Err g) wrong other));
    }
