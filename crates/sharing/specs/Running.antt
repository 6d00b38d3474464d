-- The running rule: a weight gets what the weights up to it get together, less what the weights before it get together,
-- each rounded down; with the sign of the amount.
use Rattle.std.specs.Prelude.{◌≡◌, ℕ, ◌+◌, ◌-◌, ◌≤◌, List, length, take, ℤ, sum, unsigned_abs}
use Rattle.rounding.specs.Nearest.{signed}
use Rattle.sharing.specs.Sharing.{portion, added}
use Rattle.sharing.specs.Places.{by_place}

-- what the first i weights get together of m cents, rounded down
abbrev pub reached : ℕ → List ℕ → ℕ → ℕ
reached m ws i = portion m ws (sum (take i ws))

-- the cents of place i, its share, and the list of all shares
abbrev pub running_cents : ℕ → List ℕ → ℕ → ℕ
running_cents m ws i = reached m ws (i + 1) - reached m ws i

abbrev pub running_at : ℤ → List ℕ → ℕ → ℤ
running_at f ws i = signed f (running_cents (unsigned_abs f) ws i)

unfoldable pub running : ℤ → List ℕ → List ℤ
running f ws = by_place (running_at f ws) ws

-- Its law: wherever one stops, the shares so far add up to the exact portion of the weights so far, rounded down in
-- size, with the sign of the amount.
pub record RunningShares (f : ℤ) (ws : List ℕ) (ss : List ℤ) : Type 0 where
  pub long : length ss ≡ length ws
  pub each : (i : ℕ) → i ≤ length ws → added (take i ss) ≡ signed f (reached (unsigned_abs f) ws i)
