use Rattle.std.proofs.Common.{◌∷◌, decimal, sym, subst}
use Rattle.std.specs.Fmt.{signed_decimal}
use Rattle.files.specs.Fields.{Small, SmallPrice, IsText}
use Rattle.files.specs.Spelling.{cases_from, minus_text, no_minus_nothing, no_minus_zero}
use Rattle.files.proofs.numbers.price_below_zero.Goals as goal

pub returns-in_err-size : goal.returns-in_err-size
returns-in_err-size c = rw c.from_residual.ensures (no_minus_nothing c.args.digits.now c.in_err-size.ensures)

pub returns : goal.returns
returns c =
    let digits = c.args.digits.now in
    let t = c.in_ok-size.ensures in
    cases_from c.below_zero.result c.below_zero.ensures
    (λ none. no_minus_zero digits (subst (IsText decimal Small digits) none t))
    (λ z so. subst (IsText signed_decimal SmallPrice (45 ∷ digits)) (sym so.1) (minus_text digits c.in_ok-size.size so.0 t))
