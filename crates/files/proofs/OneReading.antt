-- One answer is right for a file. Assumes nothing.
use Rattle.std.proofs.Common.{◌≡◌, ℕ, ◌+◌, ◌<◌, List, [], ◌∷◌, ◌++◌, length, sym, refl, ap, ◌∙◌, append_assoc, arith, length-append}
use Rattle.std.specs.List.{flat_map, AllByRecursion}
use Rattle.std.proofs.lemmas.List.{append-nil, append_cancel_left}
use Rattle.files.specs.Fields.{NoFront, OneFront}
use Rattle.files.specs.Files.{OneAnswer}

module _ {Row : Type 0} (line : Row → List ℕ) (Writable : Row → Type 0) (some : (row : Row) → 0 < length (line row)) (one : OneFront line Writable) where
  -- no bytes begin with no line
  none_at_end : NoFront line Writable []
  none_at_end x rest fine e = let long = simp length-append at (ap length e) in omega (arith, some x)

  -- the lines at the front of bytes are those of one list of rows, if none begins what is left
  same_rows : (xs ys : List Row) (left right : List ℕ) → AllByRecursion Writable xs → AllByRecursion Writable ys → NoFront line Writable left → NoFront line Writable right → flat_map line xs ++ left ≡ flat_map line ys ++ right → xs ≡ ys
  same_rows [] [] left right a b p q e = refl
  same_rows [] (y ∷ ys) left right a b p q e = absurd (p y (flat_map line ys ++ right) b.0 (e ∙ append_assoc (line y) (flat_map line ys) right))
  same_rows (x ∷ xs) [] left right a b p q e = absurd (q x (flat_map line xs ++ left) a.0 (sym e ∙ append_assoc (line x) (flat_map line xs) left))
  same_rows (x ∷ xs) (y ∷ ys) left right a b p q e =
      let same = one (flat_map line (x ∷ xs) ++ left) x y (flat_map line xs ++ left) (flat_map line ys ++ right)
      (record { fine = a.0; written = append_assoc (line x) (flat_map line xs) left })
      (record { fine = b.0; written = e ∙ append_assoc (line y) (flat_map line ys) right }) in
      let rest = same_rows xs ys left right a.1 b.1 p q same.1 in
      ap (λ z. z ∷ xs) same.0 ∙ ap (λ zs. y ∷ zs) rest

  pub one_answer : OneAnswer line Writable
  one_answer =
      record {
        read = λ bytes xs ys a b.
            same_rows xs ys [] [] a.writable b.writable none_at_end none_at_end (append-nil _ ∙ sym a.written ∙ b.written ∙ sym (append-nil _));
        not_both = λ bytes xs n a b.
            let same = same_rows xs b.rows [] b.left a.writable b.writable none_at_end b.unreadable (append-nil _ ∙ sym a.written ∙ b.written) in
            let whole = ap (λ rows. flat_map line rows ++ b.left) same ∙ sym b.written ∙ a.written ∙ sym (append-nil (flat_map line xs)) in
            let nothing = ap length (append_cancel_left (flat_map line xs) b.left [] whole) in
            omega (arith, b.some);
        unreadable = λ bytes m n a b.
            let same = same_rows a.rows b.rows a.left b.left a.writable b.writable a.unreadable b.unreadable (sym a.written ∙ b.written) in
            a.number ∙ ap (λ rows. length rows + 1) same ∙ sym b.number;
      }
