use Rattle.std.proofs.Common.{◌≡◌, ℕ, ◌<◌, get_or, take, pos, nat_abs, sum}
use Rattle.sharing.specs.Running.{reached, running_at}
use Rattle.sharing.proofs.running.share_by_running.Given as goal

-- the shares so far are written, with the weights up to here and what they get together
abbrev pub invariant-loop-i : goal.invariant-loop-i
invariant-loop-i l =
    let f = l.division.amount in
    let ws = l.division.weights.now in
    record {
      written : (k : ℕ) → k < l.i → get_or l.shares k (pos 0) ≡ running_at f ws k;
      weighed : l.sum ≡ sum (take l.i ws);
      handed : l.before ≡ reached (nat_abs f) ws l.i;
    }
