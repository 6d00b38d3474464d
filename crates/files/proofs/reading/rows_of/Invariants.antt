use Rattle.std.proofs.Common.{length, vec_items}
use Rattle.files.proofs.LineByLine.{SoFar}
use Rattle.files.proofs.reading.rows_of.Given as goal

abbrev pub invariant-loop-left : goal.invariant-loop-left
invariant-loop-left g l = SoFar g.R.LineText.line g.R.LineText.writable l.bytes (vec_items l.rows) l.left

abbrev pub decreases-loop-left : goal.decreases-loop-left
decreases-loop-left g l = length l.left
