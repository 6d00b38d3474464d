use Rattle.std.proofs.lemmas.List.{take_rest}
use Rattle.files.specs.Splitting.{cut_at}
use Rattle.files.proofs.fields.split_at_byte.Goals as goal

pub returns : goal.returns
returns c = let at = c.in_ok-i.ensures in rw take_rest (cut_at c.args.end c.args.bytes.now c.in_ok-i.i at.inside at.before at.here)
