use Rattle.std.proofs.Common.{ℕ, ◌<◌, true}
use Rattle.std.specs.Fn.{FnReturnsAt}
use Rattle.contracts.specs.Chains.{row_at}
use Rattle.contracts.proofs.check.check_each.Given as goal

abbrev pub invariant-loop-i : goal.invariant-loop-i
invariant-loop-i g l = (k : ℕ) → k < l.i → FnReturnsAt g.F.Fn l.passes (row_at l.rows k) true
