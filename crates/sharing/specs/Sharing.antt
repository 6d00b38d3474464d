-- What every sharing rule owes: the bounds inside which it shares an amount of cents over weights, the one-cent law of
-- its shares, the rest that they leave, and what one use of it does. A rule's meaning m is its list of shares for an
-- amount and weights.
use Rattle.std.specs.Prelude.{◌≡◌, ℕ, ◌*◌, ◌/◌, ◌<◌, ◌≤◌, List, length, ℤ, pos, ◌+ℤ◌, ◌-ℤ◌, ◌*ℤ◌, fold, sum, slice_index, slice_index_or, unsigned_abs}

-- the sum of the shares
abbrev pub added : List ℤ → ℤ
added ss = fold ◌+ℤ◌ (pos 0) ss

-- the rest: what the shares leave of the amount f
unfoldable pub rest_of : ℤ → List ℤ → ℤ
rest_of f ss = f -ℤ added ss

-- the bounds: f from -1,000,000,000 to 1,000,000,000 cents, the weights together from 1 to 4,000,000,000
pub record Within (f : ℤ) (ws : List ℕ) : Type 0 where
  pub size : unsigned_abs f ≤ 1000000000
  pub some : 0 < sum ws
  pub most : sum ws ≤ 4000000000

-- the same, and a share table of n cells that is just as long as the weights
pub record Ready (f : ℤ) (ws : List ℕ) (n : ℕ) : Type 0 where
  pub within : Within f ws
  pub cells : n ≡ length ws

-- what a part of the total of the weights gets of m cents, rounded down
abbrev pub portion : ℕ → List ℕ → ℕ → ℕ
portion m ws part = m * part / sum ws

-- the share at a place
abbrev pub share_at : List ℤ → ℕ → ℤ
share_at ss i = slice_index_or ss i (pos 0)

-- the one-cent law: each share is less than one cent from f × weight ÷ total, that is, share × total is less than the
-- total away from f × weight
pub record OneCent (f : ℤ) (ws : List ℕ) (ss : List ℤ) : Type 0 where
  pub long : length ss ≡ length ws
  pub near : (i : ℕ) → i < length ws → unsigned_abs (share_at ss i *ℤ pos (sum ws) -ℤ f *ℤ pos (slice_index ws i)) < sum ws

-- ss keeps a law of shares, and is the only list that does
pub record Unique (law : List ℤ → Type 0) (ss : List ℤ) : Type 0 where
  pub keeps : law ss
  pub only : (ts : List ℤ) → law ts → ts ≡ ss

-- one use of a rule that means m, with a share table that held `before` and now holds `after`: inside the bounds it
-- writes the shares and answers the rest; otherwise it writes nothing and answers f
pub record Shared (m : ℤ → List ℕ → List ℤ) (f : ℤ) (ws : List ℕ) (before after : List ℤ) (answer : ℤ) : Type 0 where
  pub writes : Ready f ws (length before) → after ≡ m f ws
  pub leaves : Ready f ws (length before) → answer ≡ rest_of f (m f ws)
  pub refuses : (Ready f ws (length before) → ⊥) → (after ≡ before) × (answer ≡ f)
