-- Sums and counts over the places below n. Assumes nothing.
use Rattle.std.specs.Prelude.{◌≡◌, ℕ, zero, suc, ◌+◌, ◌-◌, ◌*◌, ◌<◌, ◌≤◌, Bool, true, false, refl, List, length, take, sum_by, slice_index}
use Rattle.std.specs.List.{range_with_len}
use Rattle.std.proofs.Common.{sym, ap, ◌∙◌, ⊎_elim, zero-mul, add-one, zero-add, arith}
use Rattle.std.proofs.lemmas.Bool.{cases_eq}
use Rattle.std.proofs.lemmas.List.{take_all}
use Rattle.std.proofs.lemmas.List.FromFn.{get_or-range_with_len, length-range_with_len, sum_by-map-range_with_len_more}
use Rattle.std.proofs.lemmas.List.Sums.{get_or-le-sum_by, sum-map, sum_by_more}
use Rattle.sharing.specs.Places.{upto, one_if}

pub one_if_le : (b : Bool) → one_if b ≤ 1
one_if_le true = omega arith
one_if_le false = omega arith

pub upto_more : (c : ℕ → ℕ) (i : ℕ) → upto c (i + 1) ≡ upto c i + c i
upto_more c i =
    sym (sum-map c (range_with_len 0 (i + 1)))
    ∙ sum_by-map-range_with_len_more (λ x. x) c 0 i i (zero-add i)
    ∙ ap (λ x. x + c i) (sum-map c (range_with_len 0 i))

pub upto-suc : (c : ℕ → ℕ) (n : ℕ) → upto c (suc n) ≡ upto c n + c n
upto-suc c n = ap (upto c) (sym (add-one n)) ∙ upto_more c n

pub upto_le : (a b : ℕ → ℕ) (n : ℕ) → ((i : ℕ) → i < n → a i ≤ b i) → upto a n ≤ upto b n
upto_le a b zero h = omega arith
upto_le a b (suc n) h =
    omega (arith, upto-suc a n, upto-suc b n, upto_le a b n (λ i k. h i (omega arith)), h n (omega arith))

-- no more, and somewhere less
pub upto_lt : (a b : ℕ → ℕ) (n : ℕ) → ((i : ℕ) → i < n → a i ≤ b i) → (j : ℕ) → j < n → a j < b j → upto a n < upto b n
upto_lt a b zero h j k l = absurd (omega arith)
upto_lt a b (suc n) h j k l =
    ⊎_elim
    (λ e. omega (arith, upto-suc a n, upto-suc b n, upto_le a b n (λ i q. h i (omega arith)), rw e at l))
    (λ d. omega (arith, upto-suc a n, upto-suc b n, upto_lt a b n (λ i q. h i (omega arith)) j (omega arith) l, h n (omega arith)))
    (cases_eq j n)

upto_at : (c : ℕ → ℕ) (n i : ℕ) → i < n → c i ≤ upto c n
upto_at c n i k =
    rw (get_or-range_with_len 0 n i 0 k, zero-add i) at (get_or-le-sum_by c (range_with_len 0 n) i 0 (rw length-range_with_len k))

-- no place has more than all places together
pub upto_part : (c : ℕ → ℕ) (n i m : ℕ) → upto c n ≡ m → i < n → c i ≤ m
upto_part c n i m all k = omega (arith, upto_at c n i k)

pub upto_add : (a b : ℕ → ℕ) (n : ℕ) → upto (λ i. a i + b i) n ≡ upto a n + upto b n
upto_add a b zero = refl
upto_add a b (suc n) =
    omega (arith, upto-suc (λ i. a i + b i) n, upto-suc a n, upto-suc b n, upto_add a b n)

pub upto-mul : (a : ℕ → ℕ) (k n : ℕ) → upto (λ i. a i * k) n ≡ upto a n * k
upto-mul a k zero = sym (zero-mul k)
upto-mul a k (suc n) =
    omega (arith, upto-suc (λ i. a i * k) n, ap (λ x. x * k) (upto-suc a n), upto-mul a k n)

pub upto_same : (a b : ℕ → ℕ) (n : ℕ) → ((i : ℕ) → i < n → a i ≡ b i) → upto a n ≡ upto b n
upto_same a b zero h = refl
upto_same a b (suc n) h =
    omega (arith, upto-suc a n, upto-suc b n, upto_same a b n (λ i k. h i (omega arith)), h n (omega arith))

pub upto_ones : (n : ℕ) → upto (λ i. 1) n ≡ n
upto_ones zero = refl
upto_ones (suc n) = omega (arith, upto-suc (λ i. 1) n, upto_ones n)

-- the steps of g add up to its rise
pub upto_steps : (g : ℕ → ℕ) → ((i : ℕ) → g i ≤ g (i + 1)) → (n : ℕ) → upto (λ i. g (i + 1) - g i) n + g 0 ≡ g n
upto_steps g up zero = omega arith
upto_steps g up (suc n) =
    omega (arith, upto-suc (λ i. g (i + 1) - g i) n, upto_steps g up n, up n, ap g (add-one n))

-- a sum over the elements of a list, by place
upto-take : (f : ℕ → ℕ) (xs : List ℕ) (n : ℕ) → n ≤ length xs → upto (λ i. f (slice_index xs i)) n ≡ sum_by f (take n xs)
upto-take f xs zero h = refl
upto-take f xs (suc n) h =
    omega (
      arith,
      upto-suc (λ i. f (slice_index xs i)) n,
      upto-take f xs n (omega arith),
      ap (λ k. sum_by f (take k xs)) (add-one n),
      sum_by_more f xs n 0 (omega arith),
    )

pub upto-list : (f : ℕ → ℕ) (xs : List ℕ) → upto (λ i. f (slice_index xs i)) (length xs) ≡ sum_by f xs
upto-list f xs = upto-take f xs (length xs) (omega arith) ∙ ap (sum_by f) (take_all (length xs) xs (omega arith))

pub upto_up : (c : ℕ → ℕ) (i n : ℕ) → i ≤ n → upto c i ≤ upto c n
upto_up c i zero h = let e : i ≡ 0 = omega arith in rw e (omega arith)
upto_up c i (suc n) h =
    ⊎_elim (λ e. rw e (omega arith)) (λ d. omega (arith, upto-suc c n, upto_up c i n (omega arith))) (cases_eq i (suc n))
