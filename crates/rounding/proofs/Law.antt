-- Why the rounded number is the nearest one, and the only one that the law allows. Assumes nothing.
use Rattle.std.proofs.Common.{◌≡◌, ℕ, ◌+◌, ◌-◌, ◌*◌, ◌<◌, ◌≤◌, ◌⊎◌, ℤ, pos, negsuc, ◌+ℤ◌, ◌-ℤ◌, ◌*ℤ◌, nat_abs, ◌≤ℤ◌, sym, ap, ◌∙◌, subst, inl, inr, ⊎_elim, mul-le-mul_right, arith}
use Rattle.std.proofs.lemmas.Int.{ints, unsigned_abs-mul}
use Rattle.std.proofs.lemmas.Bool.{cases_eq, cases_lt}
use Rattle.rounding.specs.Nearest.{signed, half_up, nearest, miss, Nearest, Only, Rounded}
use Rattle.rounding.proofs.Signs.{signed_self, nat_abs-signed, signed_mul, signed_apart}
use Rattle.rounding.proofs.HalfUp.{half_up_near}

-- z × d is at least d below q × d
abbrev Below : ℤ → ℤ → ℕ → Type 0
Below z q d = (z *ℤ pos d +ℤ pos d) ≤ℤ (q *ℤ pos d)

mul_step : (a b d : ℕ) → a < b → a * d + d ≤ b * d
mul_step a b d h = omega (arith, mul-le-mul_right d h)

three : (a b : ℕ) → (a ≡ b) ⊎ ((a < b) ⊎ (b < a))
three a b = ⊎_elim inl (λ differ. inr (⊎_elim inl (λ h. inr (omega arith)) (cases_lt a b))) (cases_eq a b)

-- different whole numbers have products with d that are at least d apart
stepped : (z q : ℤ) (d : ℕ) → (z ≡ q) ⊎ (Below z q d ⊎ Below q z d)
stepped (pos a) (pos b) d =
    ⊎_elim (λ e. inl (ap pos e)) (λ s. inr (⊎_elim (λ h. inl (omega (arith, ints, mul_step a b d h))) (λ h. inr (omega (arith, ints, mul_step b a d h))) s)) (three a b)
stepped (pos a) (negsuc b) d = inr (inr (omega (arith, ints)))
stepped (negsuc a) (pos b) d = inr (inl (omega (arith, ints)))
stepped (negsuc a) (negsuc b) d =
    ⊎_elim (λ e. inl (ap negsuc e)) (λ s. inr (⊎_elim (λ h. inr (omega (arith, ints, mul_step a b d h))) (λ h. inl (omega (arith, ints, mul_step b a d h))) s)) (three a b)

-- q misses n ÷ d by at most a half, and by a half only beyond n
pub record Halfway (n : ℤ) (d : ℕ) (q : ℤ) : Type 0 where
  pub close : 2 * miss n d q ≤ d
  pub away : 2 * miss n d q ≡ d → nat_abs n < nat_abs (q *ℤ pos d)

halfway : (n : ℤ) (d : ℕ) → 0 < d → Halfway n d (nearest n d)
halfway n d some =
    let m = nat_abs n in
    let q = half_up m d in
    let size : nat_abs (signed n q *ℤ pos d) ≡ q * d = ap nat_abs (signed_mul n q d) ∙ nat_abs-signed n (q * d) in
    let off : miss n d (signed n q) ≡ (m - q * d) + (q * d - m) =
    ap (λ z. nat_abs (n -ℤ z)) (signed_mul n q d) ∙ ap (λ z. nat_abs (z -ℤ signed n (q * d))) (sym (signed_self n)) ∙ signed_apart n m (q * d) in
    let h = half_up_near m d some in
    record { close = omega arith; away = λ e. omega arith }

module _ (n : ℤ) (d : ℕ) (some : 0 < d) (q : ℤ) (half : Halfway n d q) where
  nearer : (z : ℤ) → miss n d q ≤ miss n d z
  nearer z =
      ⊎_elim
      (λ e. let same = ap (miss n d) e in omega (arith, same))
      (λ s. ⊎_elim (λ below. omega (arith, ints, half.close)) (λ above. omega (arith, ints, half.close)) s)
      (stepped z q d)

  -- a product that is not 0 is at least d
  one_step : 0 < nat_abs (q *ℤ pos d) → d ≤ nat_abs (q *ℤ pos d)
  one_step h =
      ⊎_elim
      (λ e. absurd (omega (arith, unsigned_abs-mul q (pos d), ap (λ x. x * d) e)))
      (λ differ. omega (arith, unsigned_abs-mul q (pos d), mul_step 0 (nat_abs q) d (omega arith)))
      (cases_eq (nat_abs q) 0)

  closer : (z : ℤ) → (z ≡ q → ⊥) → miss n d z ≡ miss n d q → nat_abs z < nat_abs q
  closer z differ same =
      let out : 2 * miss n d q ≡ d = ⊎_elim (λ e. absurd (differ e)) (λ s. ⊎_elim (λ below. omega (arith, ints, half.close)) (λ above. omega (arith, ints, half.close)) s) (stepped z q d) in
      let far : nat_abs n < nat_abs (q *ℤ pos d) = half.away out in
      let step : d ≤ nat_abs (q *ℤ pos d) = one_step (omega arith) in
      let less : nat_abs (z *ℤ pos d) < nat_abs (q *ℤ pos d) = ⊎_elim (λ e. absurd (differ e)) (λ s. ⊎_elim (λ below. omega (arith, ints)) (λ above. omega (arith, ints)) s) (stepped z q d) in
      ⊎_elim (λ h. h) (λ h. absurd (omega (arith, unsigned_abs-mul z (pos d), unsigned_abs-mul q (pos d), mul-le-mul_right d h))) (cases_lt (nat_abs z) (nat_abs q))

  pub halfway_nearest : Nearest n d q
  halfway_nearest = record { near = nearer; outward = closer }

-- two numbers that keep the law are one
pub nearest_only : (n : ℤ) (d : ℕ) → 0 < d → (q : ℤ) → Nearest n d q → Only n d q
nearest_only n d some q law z other =
    let same : miss n d z ≡ miss n d q = omega (arith, law.near z, other.near q) in
    let apart : (z ≡ q → ⊥) → z ≡ q = λ differ. absurd (omega (arith, law.outward z differ same, other.outward q (λ e. differ (sym e)) (sym same))) in
    ⊎_elim
    (λ e. e)
    (λ s. apart (λ e. let product = ap (λ x. x *ℤ pos d) e in ⊎_elim (λ below. omega (arith, ints)) (λ above. omega (arith, ints)) s))
    (stepped z q d)

pub nearest_law : (n : ℤ) (d : ℕ) → 0 < d → Nearest n d (nearest n d)
nearest_law n d some = halfway_nearest n d some (nearest n d) (halfway n d some)

pub nearest_halfway : (n : ℤ) (d : ℕ) → 0 < d → 2 * miss n d (nearest n d) ≤ d
nearest_halfway n d some = (halfway n d some).close

pub rounded : (n : ℤ) (d : ℕ) → 0 < d → (q : ℤ) → q ≡ nearest n d → Rounded n d q
rounded n d some q is =
    let law : Nearest n d q = subst (Nearest n d) (sym is) (nearest_law n d some) in
    record { value = is; law = law; only = nearest_only n d some q law }
