-- Bytes that are cut at the first byte of a kind, and the fields that are read before it. Assumes nothing.
use Rattle.std.specs.Prelude.{◌≡◌, ℕ, zero, suc, ◌+◌, ◌<◌, List, [], ◌∷◌, ◌++◌, length, take, drop, ℤ, pos, negsuc, Some, None, decimal, Option, ◌≢◌, slice_index, refl}
use Rattle.std.proofs.Common.{sym, ap, ◌∙◌, append_assoc, arith, length-append}
use Rattle.std.specs.Fmt.{signed_decimal}
use Rattle.std.proofs.lemmas.List.{drop_more, get_or_at, get_or-take, length-take-le, take-append-drop}
use Rattle.files.specs.Fields.{Small, SmallPrice, SmallNext, next_text, IsText, NoText, Lacks, Ended, ended, Front, NoFront}
use Rattle.files.specs.Spelling.{decimal_lacks}

-- the bytes are cut where the first such byte stands
pub cut_at : (end : ℕ) (bytes : List ℕ) (i : ℕ) → i < length bytes → ((k : ℕ) → k < i → slice_index bytes k ≢ end) → slice_index bytes i ≡ end → Ended end bytes (take i bytes) (drop (i + 1) bytes)
cut_at end bytes i within before here =
    let long = length-take-le i bytes (omega arith) in
    record {
      whole = sym (take-append-drop i bytes) ∙ ap (λ xs. take i bytes ++ xs) (drop_more bytes i 0 within ∙ ap (λ b. b ∷ drop (i + 1) bytes) here);
      first = λ k h e. let low : k < i = omega arith in before k low (sym (get_or-take i bytes k 0 low) ∙ e);
    }

lacks_tail : (end b : ℕ) (bs : List ℕ) → Lacks end (b ∷ bs) → Lacks end bs
lacks_tail end b bs lacks k h e = lacks (suc k) (omega arith) e

-- there is one such cut
pub same_rest : (end : ℕ) (xs ys r s : List ℕ) → Lacks end xs → Lacks end ys → xs ++ end ∷ r ≡ ys ++ end ∷ s → (xs ≡ ys) × (r ≡ s)
same_rest end [] [] r s lx ly e = (refl, ap (drop 1) e)
same_rest end [] (y ∷ ys) r s lx ly e = absurd (ly 0 (omega arith) (sym (ap (λ l. slice_index l 0) e)))
same_rest end (x ∷ xs) [] r s lx ly e = absurd (lx 0 (omega arith) (ap (λ l. slice_index l 0) e))
same_rest end (x ∷ xs) (y ∷ ys) r s lx ly e =
    let so = same_rest end xs ys r s (lacks_tail end x xs lx) (lacks_tail end y ys ly) (ap (drop 1) e) in
    let head : x ≡ y = ap (λ l. slice_index l 0) e in
    (ap (λ l. x ∷ l) so.0 ∙ ap (λ b. b ∷ ys) head, so.1)

module _ {X : Type 0} (text : X → List ℕ) (Fine : X → Type 0) (end : ℕ) (bytes : List ℕ) where
  -- the bytes have no such byte
  pub no_end : Lacks end bytes → NoFront (ended end text) Fine bytes
  no_end lacks x rest fine e =
      let at = e ∙ append_assoc (text x) (end ∷ []) rest in
      lacks (length (text x)) (omega (arith, simp length-append at (ap length at))) (ap (λ l. slice_index l (length (text x))) at ∙ get_or_at (text x) end rest 0 _ refl)

  -- the field before it is the text of a value
  pub field_front : (field rest : List ℕ) (x : X) → Ended end bytes field rest → IsText text Fine field x → Front (ended end text) Fine bytes x rest
  field_front field rest x cut is =
      record { fine = is.fine; written = cut.whole ∙ ap (λ l. l ++ end ∷ rest) is.written ∙ sym (append_assoc (text x) (end ∷ []) rest) }

  module _ (clean : (x : X) → Fine x → Lacks end (text x)) where
    -- the field before it is the text of no value
    pub no_field : (field rest : List ℕ) → Ended end bytes field rest → NoText text Fine field → NoFront (ended end text) Fine bytes
    no_field field rest cut none x tail fine e =
        none x fine (same_rest end field (text x) rest tail cut.first (clean x fine) (sym cut.whole ∙ e ∙ append_assoc (text x) (end ∷ []) tail)).0

    -- what follows a field does not depend on how it is read
    pub past : (x y : X) (rest tail : List ℕ) → Front (ended end text) Fine bytes x rest → Fine y → bytes ≡ ended end text y ++ tail → rest ≡ tail
    past x y rest tail front fine e =
        (same_rest end (text x) (text y) rest tail (clean x front.fine) (clean y fine)
        (sym (append_assoc (text x) (end ∷ []) rest) ∙ sym front.written ∙ e ∙ append_assoc (text y) (end ∷ []) tail)
        ).1

-- no text of a number has a byte below the minus
module _ (end : ℕ) (low : end < 45) where
  pub clean_decimal : (n : ℕ) → Small n → Lacks end (decimal n)
  clean_decimal n small = decimal_lacks end n (λ h. omega arith) small

  pub clean_next : (o : Option ℕ) → SmallNext o → Lacks end (next_text o)
  clean_next None fine k h e = omega arith
  clean_next (Some n) small k h e = clean_decimal n small k h e

  after_minus : (ds : List ℕ) → Lacks end ds → Lacks end (45 ∷ ds)
  after_minus ds lacks zero h e = omega arith
  after_minus ds lacks (suc k) h e = lacks k (omega arith) e

  pub clean_signed : (z : ℤ) → SmallPrice z → Lacks end (signed_decimal z)
  clean_signed (pos n) small = clean_decimal n small
  clean_signed (negsuc n) small = after_minus (decimal (suc n)) (clean_decimal (suc n) small)
