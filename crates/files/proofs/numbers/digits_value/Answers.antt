use Rattle.std.proofs.Common.{rules}
use Rattle.files.specs.Spelling.{valued_more}
use Rattle.files.proofs.numbers.digits_value.Goals as goal

pub loop-digit-preserved : goal.loop-digit-preserved
loop-digit-preserved c =
    valued_more c.args.field.now c.loop-digit.digit-index c.loop-digit.value c.in_ok-value.value c.loop-digit-test.true c.loop-digit.invariant (search rules) (search rules) (search rules)
