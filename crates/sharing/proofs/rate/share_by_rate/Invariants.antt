use Rattle.std.proofs.Common.{◌≡◌, ℕ, ◌*◌, ◌<◌, ◌≤◌, get_or, take, pos, ◌-ℤ◌, nat_abs, sum}
use Rattle.sharing.specs.Rate.{rate_at}
use Rattle.sharing.specs.ByPlace.{added_to}
use Rattle.sharing.proofs.rate.share_by_rate.Given as goal

-- the shares so far are written, rest is what they leave, and they are few enough that it fits
abbrev pub invariant-loop-i : goal.invariant-loop-i
invariant-loop-i l =
    let s = rate_at l.division.amount l.division.weights.now in
    record {
      written : (k : ℕ) → k < l.i → get_or l.shares k (pos 0) ≡ s k;
      left : l.rest ≡ l.division.amount -ℤ added_to s l.i;
      few : nat_abs (added_to s l.i) ≤ 1000000000 * sum (take l.i l.division.weights.now);
    }
