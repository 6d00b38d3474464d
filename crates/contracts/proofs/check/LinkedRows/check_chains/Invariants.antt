use Rattle.std.proofs.Common.{ℕ, ◌<◌}
use Rattle.contracts.specs.Chains.{Ends}
use Rattle.contracts.specs.Walks.{Walked}
use Rattle.contracts.proofs.check.LinkedRows.check_chains.Given as goal

abbrev pub invariant-loop-i : goal.invariant-loop-i
invariant-loop-i l = ((k : ℕ) → k < l.i → Ends l.self.rows.now k) × Walked l.self.rows.now l.i l.walks
