use Rattle.std.proofs.Common.{take}
use Rattle.files.specs.Fields.{Valued}
use Rattle.files.proofs.numbers.digits_value.Given as goal

abbrev pub invariant-loop-digit : goal.invariant-loop-digit
invariant-loop-digit l = Valued (take l.digit-index l.field) l.value
