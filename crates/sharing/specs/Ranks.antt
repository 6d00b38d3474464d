-- The ranks of n places under a strict total order are 0 to n - 1, each once: so as many places have a rank below k as k says. Assumes nothing.
use Rattle.std.specs.Prelude.{◌≡◌, ℕ, zero, suc, ◌+◌, ◌-◌, ◌<◌, ◌≤◌, Bool, true, false, ltb, ◌⊎◌, ◌==◌, ◌≢◌, nat_eq, nat_lt, refl}
use Rattle.std.proofs.Common.{sym, ap, ◌∙◌, ⊎_elim, add-zero, zero-add, arith}
use Rattle.std.proofs.lemmas.Bool.{cases_eq, cases_Bool, eq-eqb, ne_eqb, lt-ltb, le-ltb}
use Rattle.std.proofs.lemmas.Bool.Decides.{nat_tests}
use Rattle.sharing.specs.Places.{upto, one_if}
use Rattle.sharing.specs.Upto.{upto-suc, upto_lt, upto_add, upto_same, upto_ones}

-- how many of the places below n the test picks
abbrev pub count : (ℕ → Bool) → ℕ → ℕ
count p n = upto (λ i. one_if (p i)) n

pub count_all : (p : ℕ → Bool) (n : ℕ) → ((i : ℕ) → i < n → p i ≡ true) → count p n ≡ n
count_all p n h = upto_same (λ i. one_if (p i)) (λ i. 1) n (λ i k. ap one_if (h i k)) ∙ upto_ones n

pub count_none : (p : ℕ → Bool) (n : ℕ) → ((i : ℕ) → i < n → p i ≡ false) → count p n ≡ 0
count_none p zero h = refl
count_none p (suc n) h =
    omega (arith, upto-suc (λ i. one_if (p i)) n, count_none p n (λ i k. h i (omega arith)), ap one_if (h n (omega arith)))

module _ (r : ℕ → ℕ) where
  -- a value that r takes once at most
  once : (v n : ℕ) → ((i j : ℕ) → i < n → j < n → r i ≡ r j → i ≡ j) → count (λ i. nat_eq (r i) v) n ≤ 1
  once v zero apart = omega arith
  once v (suc n) apart =
      let more = upto-suc (λ i. one_if (nat_eq (r i) v)) n in
      ⊎_elim
      (λ (e : r n ≡ v).
      let none = count_none (λ i. nat_eq (r i) v) n (λ i k. ne_eqb (r i) v (λ d. omega (arith, apart i n (omega arith) (omega arith) (d ∙ sym e)))) in
      omega (arith, more, ap one_if (eq-eqb (r n) v e)))
      (λ d. omega (arith, more, once v n (λ i j k l. apart i j (omega arith) (omega arith)), ap one_if (ne_eqb (r n) v d)))
      (cases_eq (r n) v)

  module _ (n : ℕ) (apart : (i j : ℕ) → i < n → j < n → r i ≡ r j → i ≡ j) where
    slide : (k d : ℕ) → count (λ i. ltb (r i) (k + d)) n ≤ count (λ i. ltb (r i) k) n + d
    slide k zero = rw (add-zero k) (omega arith)
    slide k (suc d) =
        let v = k + d in
        let split : count (λ i. ltb (r i) (k + suc d)) n ≡ upto (λ i. one_if (nat_lt (r i) v) + one_if (r i == v)) n =
        upto_same (λ i. one_if (nat_lt (r i) (k + suc d))) (λ i. one_if (nat_lt (r i) v) + one_if (r i == v)) n (λ i h. grind (arith, nat_tests)) in
        omega (arith, upto_add (λ i. one_if (nat_lt (r i) v)) (λ i. one_if (r i == v)) n, once v n apart, slide k d)

    -- r is below k at just k places
    pub count_below : ((i : ℕ) → i < n → r i < n) → (k : ℕ) → k ≤ n → count (λ i. ltb (r i) k) n ≡ k
    count_below within k h =
        let none = count_none (λ i. ltb (r i) 0) n (λ i l. le-ltb (r i) 0 (omega arith)) in
        let all = count_all (λ i. ltb (r i) (k + (n - k))) n (λ i l. lt-ltb (r i) (k + (n - k)) (omega (arith, within i l))) in
        let low : count (λ i. ltb (r i) k) n ≤ count (λ i. ltb (r i) 0) n + k = rw zero-add at (slide 0 k) in
        omega (arith, slide k (n - k))

-- places below n in a strict total order
module _
    (before : ℕ → ℕ → Bool)
    (never : (i : ℕ) → before i i ≡ false)
    (through : (i j k : ℕ) → before i j ≡ true → before j k ≡ true → before i k ≡ true)
    (either : (i j : ℕ) → (i ≢ j) → (before i j ≡ true) ⊎ (before j i ≡ true))
    (n : ℕ)
  where
    -- how many places come before place i
    abbrev pub rank_of : ℕ → ℕ
    rank_of i = count (λ j. before j i) n

    -- who comes before i comes before whatever i comes before, and so does i
    pub rank_up : (i j : ℕ) → i < n → before i j ≡ true → rank_of i < rank_of j
    rank_up i j l h =
        upto_lt (λ x. one_if (before x i)) (λ x. one_if (before x j)) n
        (λ x k. ⊎_elim
        (λ e. omega (arith, ap one_if e, ap one_if (through x i j e h)))
        (λ e. omega (arith, ap one_if e))
        (cases_Bool (before x i)))
        i l
        (omega (arith, ap one_if (never i), ap one_if h))

    rank_within : (i : ℕ) → i < n → rank_of i < n
    rank_within i l =
        omega (arith, upto_ones n, upto_lt (λ x. one_if (before x i)) (λ x. 1) n (λ x k. ⊎_elim (λ e. omega (arith, ap one_if e)) (λ e. omega (arith, ap one_if e)) (cases_Bool (before x i))) i l (omega (arith, ap one_if (never i))))

    rank_apart : (i j : ℕ) → i < n → j < n → rank_of i ≡ rank_of j → i ≡ j
    rank_apart i j k l e =
        ⊎_elim
        (λ same. same)
        (λ differ. ⊎_elim (λ h. absurd (omega (arith, rank_up i j k h))) (λ h. absurd (omega (arith, rank_up j i l h))) (either i j differ))
        (cases_eq i j)

    -- just k places have a rank below k
    pub ranks_below : (k : ℕ) → k ≤ n → count (λ i. ltb (rank_of i) k) n ≡ k
    ranks_below k h = count_below rank_of n rank_apart rank_within k h
