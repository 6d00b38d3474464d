-- The whole number nearest to a quotient n ÷ d, a half going away from zero: how it is computed, and the law that
-- singles it out.
use Rattle.std.specs.Prelude.{◌≡◌, ℕ, ◌+◌, ◌*◌, ◌/◌, ◌<◌, ◌≤◌, ℤ, pos, negsuc, ◌-ℤ◌, ◌*ℤ◌, neg_ℤ, ◌≢◌, unsigned_abs}

-- the size m with the sign of n
abbrev pub signed : ℤ → ℕ → ℤ
signed (pos _) m = pos m
signed (negsuc _) m = neg_ℤ (pos m)

-- the whole number nearest to m ÷ d, a half going up
unfoldable pub half_up : ℕ → ℕ → ℕ
half_up m d = (2 * m + d) / (2 * d)

-- the whole number nearest to n ÷ d, a half going away from zero
abbrev pub nearest : ℤ → ℕ → ℤ
nearest n d = signed n (half_up (unsigned_abs n) d)

-- how far z × d is from n; divided by d, how far z is from n ÷ d
abbrev pub miss : ℤ → ℕ → ℤ → ℕ
miss n d z = unsigned_abs (n -ℤ z *ℤ pos d)

-- The law: no whole number is nearer to n ÷ d than q, and any other that is as near is closer to zero.
pub record Nearest (n : ℤ) (d : ℕ) (q : ℤ) : Type 0 where
  pub near : (z : ℤ) → miss n d q ≤ miss n d z
  pub outward : (z : ℤ) → (z ≢ q) → miss n d z ≡ miss n d q → unsigned_abs z < unsigned_abs q

-- The law leaves one number.
abbrev pub Only : ℤ → ℕ → ℤ → Type 0
Only n d q = (z : ℤ) → Nearest n d z → z ≡ q

-- what rounding n ÷ d promises of its answer
pub record Rounded (n : ℤ) (d : ℕ) (q : ℤ) : Type 0 where
  pub value : q ≡ nearest n d
  pub law : Nearest n d q
  pub only : Only n d q
