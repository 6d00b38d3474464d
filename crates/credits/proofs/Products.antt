-- How large a product and a rounded quotient can be. Assumes nothing.
use Rattle.std.proofs.Common.{ℕ, ◌*◌, ◌<◌, ◌≤◌, ℤ, pos, ◌*ℤ◌, nat_abs, ⊎_elim, mul-le-mul_right, arith}
use Rattle.std.proofs.lemmas.Bool.{cases_lt}
use Rattle.std.proofs.lemmas.Int.{unsigned_abs-mul}
use Rattle.rounding.specs.Nearest.{half_up, nearest}
use Rattle.rounding.proofs.Signs.{nat_abs-signed}
use Rattle.rounding.proofs.HalfUp.{half_up_near}

pub product_le : (p : ℤ) (k most : ℕ) → nat_abs p ≤ most → nat_abs (p *ℤ pos k) ≤ most * k
product_le p k most h = omega (arith, unsigned_abs-mul p (pos k), mul-le-mul_right k h)

-- a quotient that is at most a whole number either way is at most that number when it is rounded
pub nearest_within : (n : ℤ) (d most : ℕ) → 0 < d → nat_abs n ≤ most * d → nat_abs (nearest n d) ≤ most
nearest_within n d most some h =
    let q = half_up (nat_abs n) d in
    let near = half_up_near (nat_abs n) d some in
    ⊎_elim
    (λ over. absurd (omega (arith, mul-le-mul_right d over)))
    (λ within. omega (arith, nat_abs-signed n q))
    (cases_lt most q)
