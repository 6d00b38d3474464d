use Rattle.std.proofs.Common.{rules, unsigned_abs}
use Rattle.std.proofs.iter.runs.Made.{chains}
use Rattle.sharing.specs.LargestLaw.{wholes_le}
use Rattle.sharing.proofs.division.Division.spare.Goals as goal

pub sum-whole-requires-clause-fits : goal.sum-whole-requires-clause-fits
sum-whole-requires-clause-fits c =
    let d = c.args.self.now in
    let le = wholes_le (unsigned_abs d.amount) d.weights.now d.within.some in
    search (rules, chains, le)

pub overflow_sub-result : goal.overflow_sub-result
overflow_sub-result c =
    let d = c.args.self.now in
    let le = wholes_le (unsigned_abs d.amount) d.weights.now d.within.some in
    search (rules, chains, le)
