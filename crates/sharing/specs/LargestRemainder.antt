-- The largest-remainder rule: each weight gets its whole cents, and the cents that are then left go one each to the
-- weights whose divisions leave the largest remainders, lower places first among equals; with the sign of the amount.
use Rattle.std.specs.Prelude.{◌≡◌, ℕ, ◌+◌, ◌-◌, ◌*◌, ◌%◌, ◌<◌, Bool, ◌&&◌, ◌||◌, ◌⊎◌, List, length, ℤ, sum, sum_by, count_by, ◌==◌, nat_lt, slice_index, unsigned_abs}
use Rattle.rounding.specs.Nearest.{signed}
use Rattle.sharing.specs.Sharing.{portion, share_at, added}
use Rattle.std.specs.List.{range_with_len}
use Rattle.sharing.specs.Places.{by_place, one_if}

-- the whole cents of the weight at place i of m cents, and the remainder that its division leaves
abbrev pub whole : ℕ → List ℕ → ℕ → ℕ
whole m ws i = portion m ws (slice_index ws i)

abbrev pub left : ℕ → List ℕ → ℕ → ℕ
left m ws i = m * slice_index ws i % sum ws

-- the spare cents: those that the whole cents of all weights leave of m
abbrev pub spare : ℕ → List ℕ → ℕ
spare m ws = m - sum_by (portion m ws) ws

-- place j comes before place i: its remainder is larger, or equal and its place lower
abbrev pub ahead : ℕ → List ℕ → ℕ → ℕ → Bool
ahead m ws j i = nat_lt (left m ws i) (left m ws j) || (left m ws j == left m ws i && nat_lt j i)

-- how many places come before place i
abbrev pub rank : ℕ → List ℕ → ℕ → ℕ
rank m ws i = count_by (λ j. ahead m ws j i) (range_with_len 0 (length ws))

-- the first places by rank, as many as there are spare cents, get one cent more
abbrev pub gets : ℕ → List ℕ → ℕ → Bool
gets m ws i = nat_lt (rank m ws i) (spare m ws)

-- the cents of place i, its share, and the list of all shares
abbrev pub largest_cents : ℕ → List ℕ → ℕ → ℕ
largest_cents m ws i = whole m ws i + one_if (gets m ws i)

abbrev pub largest_at : ℤ → List ℕ → ℕ → ℤ
largest_at f ws i = signed f (largest_cents (unsigned_abs f) ws i)

unfoldable pub largest : ℤ → List ℕ → List ℤ
largest f ws = by_place (largest_at f ws) ws

-- Its law: every share is the whole cents of its weight or one cent more, nothing is left, and where one place got the
-- extra cent and another did not, the first left the larger remainder, or an equal one at a lower place.
pub record LargestFirst (f : ℤ) (ws : List ℕ) (ss : List ℤ) : Type 0 where
  pub long : length ss ≡ length ws
  pub each : (i : ℕ) → i < length ws → (share_at ss i ≡ signed f (whole (unsigned_abs f) ws i)) ⊎ (share_at ss i ≡ signed f (whole (unsigned_abs f) ws i + 1))
  pub all : added ss ≡ f
  pub first : (i j : ℕ) → i < length ws → j < length ws → share_at ss i ≡ signed f (whole (unsigned_abs f) ws i + 1) → share_at ss j ≡ signed f (whole (unsigned_abs f) ws j) → (left (unsigned_abs f) ws j < left (unsigned_abs f) ws i) ⊎ ((left (unsigned_abs f) ws i ≡ left (unsigned_abs f) ws j) × (i < j))
