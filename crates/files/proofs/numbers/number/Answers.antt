use Rattle.std.proofs.Common.{arith}
use Rattle.files.specs.Spelling.{cases_from, no_text_from_padded, no_text_from_valued, text_from_valued}
use Rattle.files.proofs.numbers.number.Goals as goal

pub returns-then-not-is_unpadded : goal.returns-then-not-is_unpadded
returns-then-not-is_unpadded c =
    no_text_from_padded c.args.field.now (λ u. let e = c.is_unpadded.ensures.1 u in grind arith)

pub returns : goal.returns
returns c =
    let field = c.args.field.now in
    let unpadded = c.is_unpadded.ensures.0 c.if-not-is_unpadded.false in
    cases_from c.digits_value.result c.digits_value.ensures (no_text_from_valued field) (λ n. text_from_valued field n unpadded)
