use Rattle.files.proofs.OneReading.{one_answer}
use Rattle.files.proofs.reading.read_rows.Goals as goal

pub returns-clause-only : goal.returns-clause-only
returns-clause-only g c = one_answer g.R.LineText.line g.R.LineText.writable g.met.R.LineText.some g.met.R.LineText.one
