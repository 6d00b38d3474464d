use Rattle.std.proofs.Common.{◌≡◌, ℕ, ◌<◌, get_or, pos}
use Rattle.sharing.specs.LargestRemainder.{largest_at}
use Rattle.sharing.proofs.largest_remainder.share_by_remainder.Given as goal

-- the shares so far are written
abbrev pub invariant-loop-i : goal.invariant-loop-i
invariant-loop-i l = (k : ℕ) → k < l.i → get_or l.shares k (pos 0) ≡ largest_at l.division.amount l.division.weights.now k
