use Rattle.std.proofs.Common.{ℕ, Bool, length, unsigned_abs, rules, arith}
use borrow.Author.Tests.{tests}
use Rattle.std.specs.List.{range_with_len}
use Rattle.std.proofs.lemmas.Iterator.{YieldsList-from_map, YieldsList-from_range}
use Rattle.std.proofs.lemmas.Iterator.Consumers.{fits_by_from_yields_list, sum_by_from_yields_List}
use Rattle.std.proofs.lemmas.List.FromFn.{length-range_with_len}
use Rattle.std.proofs.lemmas.List.Sums.{count_by-le-length}
use Rattle.sharing.specs.Places.{one_if}
use Rattle.sharing.specs.LargestRemainder.{ahead}
use Rattle.sharing.proofs.division.Division.rank.Goals as goal

pub sum-requires-clause-fits : goal.sum-requires-clause-fits
sum-requires-clause-fits c =
    let d = c.args.self.now in
    let n = length d.weights.now in
    let before : ℕ → Bool = λ j. ahead (unsigned_abs d.amount) d.weights.now j c.args.i in
    fits_by_from_yields_list (λ j. one_if (before j)) (range_with_len 0 n) c.map.result _
    (YieldsList-from_map _ (λ j. one_if (before j)) (YieldsList-from_range 0 _ n c.map.ensures.source (omega arith)) c.map.ensures.closure (λ x r q k. search (rules, tests)))
    (omega (arith, count_by-le-length before (range_with_len 0 n), length-range_with_len 0 n))

pub returns : goal.returns
returns c =
    let d = c.args.self.now in
    let n = length d.weights.now in
    let before : ℕ → Bool = λ j. ahead (unsigned_abs d.amount) d.weights.now j c.args.i in
    sum_by_from_yields_List (λ j. one_if (before j)) (range_with_len 0 n) c.map.result c.sum.result c.sum.ensures.ran
    (YieldsList-from_map _ (λ j. one_if (before j)) (YieldsList-from_range 0 _ n c.map.ensures.source (omega arith)) c.map.ensures.closure (λ x r q k. search (rules, tests)))
