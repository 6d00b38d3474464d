use Rattle.std.proofs.Common.{string_bytes, refl, subst}
use Rattle.std.proofs.lemmas.Result.{IfOk-weaker}
use Rattle.contracts.proofs.Answer.{one_answer}
use Rattle.contract_report.specs.Report.{ChainsText}
use Rattle.contract_report.proofs.Reporting.{report_passed, report_refused}
use Rattle.contract_report.proofs.contract_report.Goals as goal

pub returns-in-Ok : goal.returns-in-Ok
returns-in-Ok c =
    let checked = c.in-Ok.ensures in
    IfOk-weaker c.table_text.result _ _
    (λ text chains. report_passed _ _ _ (one_answer _) (checked.1, refl) (subst (λ rows. ChainsText rows (string_bytes text)) checked.0 chains))
    c.table_text.ensures

pub returns-in-Err : goal.returns-in-Err
returns-in-Err c =
    IfOk-weaker c.refused_text.result _ _
    (λ text refused. report_refused _ _ _ (one_answer _) c.in-Err.ensures refused)
    c.refused_text.ensures
