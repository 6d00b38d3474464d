-- The largest-remainder rule is exact, and keeps the one-cent law and its own. Assumes nothing.
use Rattle.std.specs.Prelude.{◌≡◌, ℕ, ◌+◌, ◌*◌, ◌<◌, ◌≤◌, zero, suc, true, false, ◌&&◌, ◌⊎◌, List, length, take, ℤ, pos, sum, sum_by, ◌==◌, ◌≢◌, nat_lt, slice_index, unsigned_abs}
use Rattle.std.proofs.Common.{sym, ap, ◌∙◌, add-one, mul-zero, inl, inr, ⊎_elim, arith}
use Rattle.std.proofs.Math.Nat.{le_of_mul-le-mul_right}
use Rattle.std.proofs.lemmas.Nat.{div-add-mod', mod_below}
use Rattle.std.proofs.lemmas.List.{take_all}
use Rattle.std.proofs.lemmas.List.Sums.{sum_by_more}
use Rattle.std.proofs.lemmas.Bool.{and_parts, both_ways, cases_Bool, cases_eq, eqb-true, ltb-false, ltb-true, or_cases}
use Rattle.std.proofs.lemmas.Bool.Decides.{nat_tests}
use Rattle.rounding.specs.Nearest.{signed}
use Rattle.rounding.proofs.Signs.{nat_abs-signed}
use Rattle.sharing.specs.Sharing.{Within, OneCent, Unique, portion, rest_of, share_at}
use Rattle.sharing.specs.Places.{upto, one_if}
use Rattle.sharing.specs.LargestRemainder.{whole, left, spare, ahead, rank, gets, largest_cents, largest_at, largest, LargestFirst}
use Rattle.sharing.specs.ByPlace.{Near, by_place_at, exact, length-by_place, no_rest, signed_cent}
use Rattle.sharing.specs.Upto.{upto-suc, upto_le, upto_add, upto-mul, upto_same, upto_ones, upto-list}
use Rattle.sharing.specs.LargestOnly.{largest_only}
use Rattle.sharing.specs.Ranks.{rank_up, ranks_below}

-- the places in order: no place is ahead of itself, and of two places one is ahead
module _ (m : ℕ) (ws : List ℕ) where
  never : (i : ℕ) → ahead m ws i i ≡ false
  never i = grind (arith, nat_tests)

  through : (i j k : ℕ) → ahead m ws i j ≡ true → ahead m ws j k ≡ true → ahead m ws i k ≡ true
  through i j k p q = grind (arith, nat_tests)

  either : (i j : ℕ) → (i ≢ j) → (ahead m ws i j ≡ true) ⊎ (ahead m ws j i ≡ true)
  either i j differ = ⊎_elim inl (λ no-i. inr (grind (arith, nat_tests))) (cases_Bool (ahead m ws i j))

  ahead_means : (i j : ℕ) → ahead m ws i j ≡ true → (left m ws j < left m ws i) ⊎ ((left m ws i ≡ left m ws j) × (i < j))
  ahead_means i j h =
      ⊎_elim
      (λ more. inl (ltb-true (left m ws j) (left m ws i) more))
      (λ both. let parts = and_parts (left m ws i == left m ws j) (nat_lt i j) both in inr (eqb-true (left m ws i) (left m ws j) parts.0, ltb-true i j parts.1))
      (or_cases (nat_lt (left m ws j) (left m ws i)) (left m ws i == left m ws j && nat_lt i j) h)

  weighed : (i : ℕ) → i ≤ length ws → upto (λ j. m * slice_index ws j) i ≡ m * sum (take i ws)
  weighed zero h = sym (mul-zero m)
  weighed (suc i) h =
      omega (
        arith,
        upto-suc (λ j. m * slice_index ws j) i,
        weighed i (omega arith),
        ap (λ k. m * sum (take k ws)) (add-one i),
        ap (λ x. m * x) (sum_by_more (λ x. x) ws i 0 (omega arith)),
      )

module _ (m : ℕ) (ws : List ℕ) (some : 0 < sum ws) where
  -- all cents are in the whole cents and what the divisions leave
  split : m * sum ws ≡ upto (whole m ws) (length ws) * sum ws + upto (left m ws) (length ws)
  split =
      let n = length ws in
      let w = sum ws in
      let all : upto (λ j. m * slice_index ws j) n ≡ m * w = weighed m ws n (omega arith) ∙ ap (λ xs. m * sum xs) (take_all n ws (omega arith)) in
      let each = upto_same (λ j. m * slice_index ws j) (λ j. whole m ws j * w + left m ws j) n (λ j h. sym (div-add-mod' (m * slice_index ws j) w)) in
      omega (arith, upto_add (λ j. whole m ws j * w) (left m ws) n, upto-mul (whole m ws) w n)

  -- the whole cents of all weights, by weight and by place
  pub wholes : upto (whole m ws) (length ws) ≡ sum_by (portion m ws) ws
  wholes = upto-list (portion m ws) ws

  pub wholes_le : sum_by (portion m ws) ws ≤ m
  wholes_le =
      omega (arith, wholes, le_of_mul-le-mul_right {m = upto (whole m ws) (length ws)} {n = m} {k = sum ws} (omega (arith, split)) some)

  spare_split : spare m ws * sum ws ≡ upto (left m ws) (length ws)
  spare_split =
      let back : m * sum ws ≡ (spare m ws + upto (whole m ws) (length ws)) * sum ws = ap (λ x. x * sum ws) (omega (arith, wholes, wholes_le)) in
      omega (arith, split)

  -- places that take up what the divisions leave are at least as many as the spare cents
  cover : (c : ℕ → ℕ) → ((j : ℕ) → j < length ws → left m ws j ≤ c j * sum ws) → spare m ws ≤ upto c (length ws)
  cover c each =
      le_of_mul-le-mul_right {m = spare m ws} {n = upto c (length ws)} {k = sum ws}
      (omega (arith, spare_split, upto_le (left m ws) (λ j. c j * sum ws) (length ws) each, upto-mul c (sum ws) (length ws)))
      some

  left_below : (j : ℕ) → left m ws j < sum ws
  left_below j = mod_below (m * slice_index ws j) (sum ws) some

  spare_within : spare m ws ≤ length ws
  spare_within = omega (arith, cover (λ j. 1) (λ j h. omega (arith, left_below j)), upto_ones (length ws))

  -- a place whose division leaves nothing gets no spare cent
  none_left : (i : ℕ) → left m ws i ≡ 0 → spare m ws ≤ rank m ws i
  none_left i e =
      cover (λ j. one_if (ahead m ws j i)) (λ j h.
      ⊎_elim
      (λ yes-j. omega (arith, left_below j, ap (λ b. one_if b * sum ws) yes-j))
      (λ no-j. let zero-j : left m ws j ≡ 0 = grind (arith, nat_tests) in omega arith)
      (cases_Bool (ahead m ws j i)))

  -- just as many places get a spare cent as there are
  spare_all : upto (λ i. one_if (gets m ws i)) (length ws) ≡ spare m ws
  spare_all = ranks_below (ahead m ws) (never m ws) (through m ws) (either m ws) (length ws) (spare m ws) spare_within

  -- a place that gets a spare cent comes before one that gets none
  first_by_rank : (i j : ℕ) → j < length ws → gets m ws i ≡ true → gets m ws j ≡ false → (left m ws j < left m ws i) ⊎ ((left m ws i ≡ left m ws j) × (i < j))
  first_by_rank i j l yes-i no-j =
      let not_behind : ahead m ws j i ≡ true → ahead m ws i j ≡ true = λ h. absurd (omega (
        arith,
        ltb-true (rank m ws i) (spare m ws) yes-i,
        ltb-false (rank m ws j) (spare m ws) no-j,
        rank_up (ahead m ws) (never m ws) (through m ws) (either m ws) (length ws) j i l h,
      )) in
      ahead_means m ws i j (⊎_elim
      (λ h. h)
      not_behind
      (either m ws i j (λ e. both_ways (gets m ws j) no-j (rw e at yes-i))))

  pub largest_all : upto (largest_cents m ws) (length ws) ≡ m
  largest_all =
      omega (
        arith,
        wholes,
        wholes_le,
        upto_add (whole m ws) (λ i. one_if (gets m ws i)) (length ws),
        spare_all,
      )

  pub largest_near : (i : ℕ) → i < length ws → Near (largest_cents m ws i * sum ws) (m * slice_index ws i) (sum ws)
  largest_near i h =
      let parts = div-add-mod' (m * slice_index ws i) (sum ws) in
      let below = left_below i in
      ⊎_elim
      (λ yes-i.
      let first : rank m ws i < spare m ws = ltb-true (rank m ws i) (spare m ws) yes-i in
      let positive : 0 < left m ws i = ⊎_elim (λ e. absurd (omega (arith, none_left i e))) (λ d. omega arith) (cases_eq (left m ws i) 0) in
      omega (arith, ap (λ b. (whole m ws i + one_if b) * sum ws) yes-i))
      (λ no-i. omega (arith, ap (λ b. (whole m ws i + one_if b) * sum ws) no-i))
      (cases_Bool (nat_lt (rank m ws i) (spare m ws)))

-- sizes with the same sign are equal if the numbers are
same_size : (f : ℤ) (a b : ℕ) → signed f a ≡ signed f b → a ≡ b
same_size f a b e = sym (nat_abs-signed f a) ∙ ap unsigned_abs e ∙ nat_abs-signed f b

module _ (f : ℤ) (ws : List ℕ) (w : Within f ws) where
  pub largest_exact : rest_of f (largest f ws) ≡ pos 0
  unfolding largest
  largest_exact =
      no_rest f (largest f ws) (exact f (largest_cents (unsigned_abs f) ws) ws (largest_all (unsigned_abs f) ws w.some))

  pub largest_cent : OneCent f ws (largest f ws)
  unfolding largest
  largest_cent = signed_cent f (largest_cents (unsigned_abs f) ws) ws (largest_near (unsigned_abs f) ws w.some)

  -- whether a place gets a spare cent shows in its share
  extra : (i c : ℕ) → share_at (largest f ws) i ≡ signed f (whole (unsigned_abs f) ws i + c) → i < length ws → one_if (gets (unsigned_abs f) ws i) ≡ c
  unfolding largest
  extra i c e h =
      let cents = same_size f (largest_cents (unsigned_abs f) ws i) (whole (unsigned_abs f) ws i + c) (sym (by_place_at (largest_at f ws) ws i h) ∙ e) in
      omega arith

  keeps : LargestFirst f ws (largest f ws)
  unfolding largest
  keeps = record {
    long = length-by_place (largest_at f ws) ws;
    each = λ i h. ⊎_elim
        (λ yes-i. inr (by_place_at (largest_at f ws) ws i h ∙ ap (λ b. signed f (whole (unsigned_abs f) ws i + one_if b)) yes-i))
        (λ no-i. inl (by_place_at (largest_at f ws) ws i h ∙ ap (λ b. signed f (whole (unsigned_abs f) ws i + one_if b)) no-i ∙ ap (signed f) (omega arith)))
        (cases_Bool (gets (unsigned_abs f) ws i));
    all = exact f (largest_cents (unsigned_abs f) ws) ws (largest_all (unsigned_abs f) ws w.some);
    first = λ i j k l more-i whole-j.
        let yes-i : gets (unsigned_abs f) ws i ≡ true = ⊎_elim (λ y. y) (λ n. absurd (omega (arith, extra i 1 more-i k, ap one_if n))) (cases_Bool (gets (unsigned_abs f) ws i)) in
        let none-j : share_at (largest f ws) j ≡ signed f (whole (unsigned_abs f) ws j + 0) = whole-j ∙ ap (signed f) (omega arith) in
        let no-j : gets (unsigned_abs f) ws j ≡ false = ⊎_elim (λ y. absurd (omega (arith, extra j 0 none-j l, ap one_if y))) (λ n. n) (cases_Bool (gets (unsigned_abs f) ws j)) in
        first_by_rank (unsigned_abs f) ws w.some i j l yes-i no-j;
  }

  pub largest_law : Unique (LargestFirst f ws) (largest f ws)
  largest_law = record { keeps = keeps; only = λ ts law. largest_only f ws (largest f ws) ts keeps law }
