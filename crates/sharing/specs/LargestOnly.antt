-- The law of the largest-remainder rule leaves one list of shares. Assumes nothing.
use Rattle.std.specs.Prelude.{◌≡◌, ℕ, ◌+◌, ◌-◌, ◌<◌, ◌≤◌, List, length, ℤ, unsigned_abs}
use Rattle.std.proofs.Common.{sym, ap, ◌∙◌, ⊎_elim, arith}
use Rattle.std.proofs.lemmas.Bool.{cases_lt}
use Rattle.rounding.specs.Nearest.{signed}
use Rattle.rounding.proofs.Signs.{nat_abs-signed}
use Rattle.sharing.specs.Sharing.{added, share_at}
use Rattle.sharing.specs.Places.{by_place, upto}
use Rattle.sharing.specs.LargestRemainder.{whole, LargestFirst}
use Rattle.sharing.specs.ByPlace.{added-signed, by_place_is}
use Rattle.sharing.specs.Upto.{upto_add, upto_lt}

-- the cents that a list of shares gives place i beyond its whole cents
abbrev more : ℤ → List ℕ → List ℤ → ℕ → ℕ
more f ws ss i = unsigned_abs (share_at ss i) - whole (unsigned_abs f) ws i

abbrev Share : ℤ → List ℕ → List ℤ → ℕ → ℕ → Type 0
Share f ws ss i c = share_at ss i ≡ signed f (whole (unsigned_abs f) ws i + c)

module _ (f : ℤ) (ws : List ℕ) where
  none : (ss : List ℤ) (i : ℕ) → Share f ws ss i 0 → share_at ss i ≡ signed f (whole (unsigned_abs f) ws i)
  none ss i e = e ∙ ap (signed f) (omega arith)

  module _ (ss : List ℤ) (law : LargestFirst f ws ss) where
    size : (i c : ℕ) → Share f ws ss i c → more f ws ss i ≡ c
    size i c e = omega (arith, ap unsigned_abs e, nat_abs-signed f (whole (unsigned_abs f) ws i + c))

    -- a place gets no cent more, or one
    parts : (i : ℕ) → i < length ws → (more f ws ss i ≤ 1) × Share f ws ss i (more f ws ss i)
    parts i h =
        let at : (c : ℕ) → c ≤ 1 → Share f ws ss i c → (more f ws ss i ≤ 1) × Share f ws ss i (more f ws ss i) =
        λ c small e. (omega (arith, size i c e), e ∙ ap (λ x. signed f (whole (unsigned_abs f) ws i + x)) (sym (size i c e))) in
        ⊎_elim (λ e. at 0 (omega arith) (e ∙ ap (signed f) (omega arith))) (λ e. at 1 (omega arith) e) (law.each i h)

    at_place : (i c : ℕ) → i < length ws → more f ws ss i ≡ c → Share f ws ss i c
    at_place i c h e = (parts i h).1 ∙ ap (λ x. signed f (whole (unsigned_abs f) ws i + x)) e

    -- the whole cents and the cents beyond them are the amount
    all_cents : upto (whole (unsigned_abs f) ws) (length ws) + upto (more f ws ss) (length ws) ≡ unsigned_abs f
    all_cents =
        let c : ℕ → ℕ = λ i. whole (unsigned_abs f) ws i + more f ws ss i in
        let listed : ss ≡ by_place (λ i. signed f (c i)) ws = by_place_is (λ i. signed f (c i)) ws ss law.long (λ i h. (parts i h).1) in
        let total : f ≡ signed f (upto c (length ws)) = sym law.all ∙ ap added listed ∙ added-signed f c (length ws) in
        omega (arith, ap unsigned_abs total, nat_abs-signed f (upto c (length ws)), upto_add (whole (unsigned_abs f) ws) (more f ws ss) (length ws))

  -- where one list gives a cent more than another, some other place would have to lose one: but the order of the places
  -- is the same for both
  no_more : (ss ts : List ℤ) → LargestFirst f ws ss → LargestFirst f ws ts → (i : ℕ) → i < length ws → more f ws ss i ≤ more f ws ts i
  no_more ss ts law other i h =
      let less-nowhere : more f ws ts i < more f ws ss i → (j : ℕ) → j < length ws → more f ws ts j ≤ more f ws ss j =
      λ d j k. ⊎_elim
      (λ e.
      let before = law.first i j h k (at_place ss law i 1 h (omega (arith, (parts ss law i h).0))) (none ss j (at_place ss law j 0 k (omega (arith, (parts ts other j k).0)))) in
      let behind = other.first j i k h (at_place ts other j 1 k (omega (arith, (parts ts other j k).0))) (none ts i (at_place ts other i 0 h (omega (arith, (parts ss law i h).0)))) in
      absurd (⊎_elim (λ a. ⊎_elim (λ b. omega arith) (λ b. omega arith) behind) (λ a. ⊎_elim (λ b. omega arith) (λ b. omega arith) behind) before))
      (λ e. e)
      (cases_lt (more f ws ss j) (more f ws ts j)) in
      ⊎_elim
      (λ d. absurd (omega (arith, all_cents ss law, all_cents ts other, upto_lt (more f ws ts) (more f ws ss) (length ws) (less-nowhere d) i h d)))
      (λ e. e)
      (cases_lt (more f ws ts i) (more f ws ss i))

  pub largest_only : (ss ts : List ℤ) → LargestFirst f ws ss → LargestFirst f ws ts → ts ≡ ss
  largest_only ss ts law other =
      let s : ℕ → ℤ = λ i. signed f (whole (unsigned_abs f) ws i + more f ws ss i) in
      let listed : (xs : List ℤ) → LargestFirst f ws xs → ((i : ℕ) → i < length ws → more f ws xs i ≡ more f ws ss i) → xs ≡ by_place s ws =
      λ xs l same. by_place_is s ws xs l.long (λ i h. at_place xs l i (more f ws ss i) h (same i h)) in
      listed ts other (λ i h. omega (arith, no_more ss ts law other i h, no_more ts ss other law i h)) ∙ sym (listed ss law (λ i h. omega arith))
