-- Shares that are made by place: how many, which, their sum, and the one-cent law of them. Assumes nothing.
use Rattle.std.specs.Prelude.{◌≡◌, ℕ, zero, suc, ◌+◌, ◌*◌, ◌<◌, ◌≤◌, List, map, length, get_or, ℤ, pos, ◌+ℤ◌, ◌-ℤ◌, ◌*ℤ◌, sum, slice_index, unsigned_abs}
use Rattle.std.proofs.Common.{sym, ap, ◌∙◌, zero-add, add-one, arith}
use Rattle.std.proofs.Math.IntN.{+ℤ_invr}
use Rattle.std.specs.List.{range_with_len}
use Rattle.std.proofs.lemmas.List.FromFn.{length-map-range_with_len, get_or-map-range_with_len, map-range_with_len_more, fill_by_all}
use Rattle.std.proofs.lemmas.List.Sums.{fold_push}
use Rattle.rounding.specs.Nearest.{signed}
use Rattle.rounding.proofs.Signs.{signed_zero, signed_self, signed_add, signed_mul, signed_apart}
use Rattle.sharing.specs.Sharing.{OneCent, added, rest_of, share_at}
use Rattle.sharing.specs.Places.{by_place, upto}
use Rattle.sharing.specs.Upto.{upto-suc}

-- a and b are less than w apart
abbrev pub Near : ℕ → ℕ → ℕ → Type 0
Near a b w = (a < b + w) × (b < a + w)

-- the sum of the shares of the first i places
abbrev pub added_to : (ℕ → ℤ) → ℕ → ℤ
added_to s i = added (map s (range_with_len 0 i))

pub added_to_more : (s : ℕ → ℤ) (i : ℕ) → added_to s (i + 1) ≡ added_to s i +ℤ s i
added_to_more s i = ap added (map-range_with_len_more s 0 i i (zero-add i)) ∙ fold_push ◌+ℤ◌ (pos 0) (map s (range_with_len 0 i)) (s i)

pub length-by_place : (s : ℕ → ℤ) (ws : List ℕ) → length (by_place s ws) ≡ length ws
length-by_place s ws = length-map-range_with_len s 0 (length ws)

pub by_place_at : (s : ℕ → ℤ) (ws : List ℕ) (i : ℕ) → i < length ws → share_at (by_place s ws) i ≡ s i
by_place_at s ws i h = get_or-map-range_with_len s 0 (length ws) i i (pos 0) h (zero-add i)

-- the only list with these shares
pub by_place_is : (s : ℕ → ℤ) (ws : List ℕ) (ss : List ℤ) → length ss ≡ length ws → ((i : ℕ) → i < length ws → share_at ss i ≡ s i) → ss ≡ by_place s ws
by_place_is s ws ss long each = fill_by_all s ss (length ws) (pos 0) long each

-- shares that add up to f leave nothing of it
pub no_rest : (f : ℤ) (ss : List ℤ) → added ss ≡ f → rest_of f ss ≡ pos 0
unfolding rest_of
no_rest f ss e = ap (λ z. f -ℤ z) e ∙ +ℤ_invr f

pub one_cent : (f : ℤ) (ws : List ℕ) (s : ℕ → ℤ) → ((i : ℕ) → i < length ws → unsigned_abs (s i *ℤ pos (sum ws) -ℤ f *ℤ pos (slice_index ws i)) < sum ws) → OneCent f ws (by_place s ws)
one_cent f ws s each = record {
  long = length-by_place s ws;
  near = λ i h. rw (by_place_at s ws i h) (each i h);
}

-- a loop that writes share after share has written them all at its end
pub written : (s : ℕ → ℤ) (ws : List ℕ) (ss : List ℤ) (i : ℕ) → length ws ≤ i → length ss ≡ length ws → ((k : ℕ) → k < i → share_at ss k ≡ s k) → ss ≡ by_place s ws
written s ws ss i end long each = by_place_is s ws ss long (λ k h. each k (omega arith))

module _ (f : ℤ) (c : ℕ → ℕ) where
  -- cents with the sign of f add up to their sum with that sign
  pub added-signed : (n : ℕ) → added_to (λ i. signed f (c i)) n ≡ signed f (upto c n)
  added-signed zero = sym (signed_zero f)
  added-signed (suc n) =
      let s : ℕ → ℤ = λ i. signed f (c i) in
      ap (added_to s) (sym (add-one n)) ∙ added_to_more s n ∙ ap (λ z. z +ℤ s n) (added-signed n) ∙ signed_add f (upto c n) (c n) ∙ ap (signed f) (sym (upto-suc c n))

  pub exact : (ws : List ℕ) → upto c (length ws) ≡ unsigned_abs f → added (by_place (λ i. signed f (c i)) ws) ≡ f
  exact ws all = added-signed (length ws) ∙ ap (signed f) all ∙ signed_self f

  pub signed_cent : (ws : List ℕ) → ((i : ℕ) → i < length ws → Near (c i * sum ws) (unsigned_abs f * slice_index ws i) (sum ws)) → OneCent f ws (by_place (λ i. signed f (c i)) ws)
  signed_cent ws each =
      let m = unsigned_abs f in
      let w = sum ws in
      one_cent f ws (λ i. signed f (c i)) (λ i h.
      let v = get_or ws i 0 in
      let product : f *ℤ pos v ≡ signed f (m * v) = ap (λ z. z *ℤ pos v) (sym (signed_self f)) ∙ signed_mul f m v in
      rw (signed_mul f (c i) w, product, signed_apart f (c i * w) (m * v)) (omega (arith, each i h)))
