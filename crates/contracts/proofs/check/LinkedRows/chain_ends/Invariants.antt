use Rattle.std.proofs.Common.{◌≡◌, length}
use Rattle.contracts.proofs.Marking.{Walking, unseen}
use Rattle.contracts.proofs.Walks.{Inside}
use Rattle.contracts.proofs.check.LinkedRows.chain_ends.Given as goal

abbrev pub invariant-loop-place : goal.invariant-loop-place
invariant-loop-place l = record { inside : Inside l.self.rows.now l.place; sized : length l.walks ≡ 256; walking : Walking l.self.rows.now l.first l.place l.walks }

abbrev pub decreases-loop-place : goal.decreases-loop-place
decreases-loop-place l = unseen l.walks
