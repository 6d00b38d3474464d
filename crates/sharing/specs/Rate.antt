-- The rate rule: each share is the nearest of amount × weight ÷ total weight.
use Rattle.std.specs.Prelude.{◌≡◌, ℕ, ◌<◌, List, length, ℤ, pos, ◌*ℤ◌, sum, slice_index}
use Rattle.rounding.specs.Nearest.{nearest, Nearest}
use Rattle.sharing.specs.Sharing.{share_at}
use Rattle.sharing.specs.Places.{by_place}

-- the share at place i, and the list of all
abbrev pub rate_at : ℤ → List ℕ → ℕ → ℤ
rate_at f ws i = nearest (f *ℤ pos (slice_index ws i)) (sum ws)

unfoldable pub rate : ℤ → List ℕ → List ℤ
rate f ws = by_place (rate_at f ws) ws

-- Its law: no whole number of cents is nearer to a weight's exact portion than its share, and any other that is as near
-- is closer to zero.
pub record NearestShares (f : ℤ) (ws : List ℕ) (ss : List ℤ) : Type 0 where
  pub long : length ss ≡ length ws
  pub each : (i : ℕ) → i < length ws → Nearest (f *ℤ pos (slice_index ws i)) (sum ws) (share_at ss i)
