-- Rounding by quotient and remainder: which of the two whole numbers it takes, and how far off that is. Assumes nothing.
use Rattle.std.proofs.Common.{◌≡◌, ℕ, ◌+◌, ◌-◌, ◌*◌, ◌/◌, ◌%◌, ◌<◌, ◌≤◌, ℤ, nat_abs, ap, ◌∙◌, mul_left_comm, arith}
use Rattle.std.proofs.lemmas.Nat.{div-add-mod', div_below, div-mul-add, mod_below, mul-le}
use Rattle.rounding.specs.Nearest.{half_up, nearest}
use Rattle.rounding.proofs.Signs.{nat_abs-signed}

module _ (m d : ℕ) (some : 0 < d) where
  -- the q that leaves less than 2 × d of 2 × m + d
  half_up_is : (q left : ℕ) → 2 * m + d ≡ q * (2 * d) + left → left < 2 * d → half_up m d ≡ q
  unfolding half_up
  half_up_is q left split small = ap (λ x. x / (2 * d)) split ∙ div-mul-add q (2 * d) left small

  pub half_up_low : 2 * (m % d) < d → half_up m d ≡ m / d
  half_up_low h =
      half_up_is (m / d) (2 * (m % d) + d) (omega (arith, div-add-mod' m d, mul_left_comm (m / d) 2 d)) (omega arith)

  pub half_up_high : d ≤ 2 * (m % d) → half_up m d ≡ m / d + 1
  half_up_high h =
      let r : m % d < d = mod_below m d some in
      half_up_is (m / d + 1) (2 * (m % d) - d) (omega (arith, div-add-mod' m d, mul_left_comm (m / d + 1) 2 d)) (omega arith)

  -- twice the product misses twice the number by at most d
  pub half_up_near : (2 * (half_up m d * d) ≤ 2 * m + d) × (2 * m < 2 * (half_up m d * d) + d)
  unfolding half_up
  half_up_near =
      omega (arith, div-add-mod' (2 * m + d) (2 * d), mod_below (2 * m + d) (2 * d) (omega arith), mul_left_comm ((2 * m + d) / (2 * d)) 2 d)

  pub half_up_le : half_up m d ≤ m
  unfolding half_up
  half_up_le =
      let more : 2 * m + d < (m + 1) * (2 * d) = omega (arith, mul_left_comm (m + 1) 2 d, mul-le m 1 m d (omega arith) some) in
      omega (arith, div_below (2 * m + d) (2 * d) (m + 1) (omega arith) more)

-- no farther from zero than the number
pub nearest_le : (n : ℤ) (d : ℕ) → 0 < d → nat_abs (nearest n d) ≤ nat_abs n
nearest_le n d some = omega (arith, nat_abs-signed n (half_up (nat_abs n) d), half_up_le (nat_abs n) d some)
