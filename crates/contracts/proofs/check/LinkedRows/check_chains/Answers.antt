use Rattle.std.proofs.Common.{arith}
use Rattle.contracts.proofs.Marking.{walked_none}
use Rattle.contracts.proofs.check.LinkedRows.check_chains.Goals as goal

pub loop-i-init : goal.loop-i-init
loop-i-init c = (λ k h. absurd (omega arith), walked_none _ 256)
