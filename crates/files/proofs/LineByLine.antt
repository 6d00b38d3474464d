-- One line more of a file. Assumes nothing.
use Rattle.std.proofs.Common.{◌≡◌, ℕ, ◌+◌, ◌<◌, ◌≤◌, List, [], ◌∷◌, ◌++◌, length, sym, ap, ◌∙◌, append_assoc, arith, length-append}
use Rattle.std.specs.List.{flat_map, AllByRecursion}
use Rattle.std.proofs.ByRecursion.{All-push}
use Rattle.std.proofs.lemmas.List.{append-nil, nil_from_length, flat_map_more}
use Rattle.files.specs.Fields.{Front}
use Rattle.files.specs.Files.{ReadsAs}

module _ {Row : Type 0} (line : Row → List ℕ) (Writable : Row → Type 0) where
  -- the bytes are the lines of the rows so far, and what is left
  pub record SoFar (bytes : List ℕ) (rows : List Row) (left : List ℕ) : Type 0 where
    pub writable : AllByRecursion Writable rows
    pub written : bytes ≡ flat_map line rows ++ left
    pub short : length rows + length left ≤ length bytes

  -- what follows a line is shorter
  pub shorter : (left : List ℕ) (row : Row) (rest : List ℕ) → Front line Writable left row rest → 0 < length (line row) → length rest < length left
  shorter left row rest front some = omega (arith, simp length-append at (ap length front.written))

  -- the bytes, by the lines of any rows and what is left, are the lines of one row more and what then is left
  pub written_more : (bytes : List ℕ) (rows : List Row) (left : List ℕ) (row : Row) (rest : List ℕ) → Front line Writable left row rest → bytes ≡ flat_map line rows ++ left → bytes ≡ flat_map line (rows ++ row ∷ []) ++ rest
  written_more bytes rows left row rest front so_far =
      so_far ∙ ap (λ l. flat_map line rows ++ l) front.written ∙ sym (append_assoc (flat_map line rows) (line row) rest)
      ∙ ap (λ l. l ++ rest) (flat_map_more line [] rows row)

  pub one_more : (bytes : List ℕ) (rows : List Row) (left : List ℕ) (row : Row) (rest : List ℕ) → Front line Writable left row rest → 0 < length (line row) → SoFar bytes rows left → SoFar bytes (rows ++ row ∷ []) rest
  one_more bytes rows left row rest front some so_far =
      record {
        writable = All-push Writable rows row so_far.writable front.fine;
        written = written_more bytes rows left row rest front so_far.written;
        short = omega (arith, length-append rows (row ∷ []), shorter left row rest front some, so_far.short);
      }

  pub all_read : (bytes : List ℕ) (rows : List Row) (left : List ℕ) → length left ≡ 0 → SoFar bytes rows left → ReadsAs line Writable bytes rows
  all_read bytes rows left none so_far =
      record {
        writable = so_far.writable;
        written = so_far.written ∙ ap (λ l. flat_map line rows ++ l) (nil_from_length left none) ∙ append-nil _;
      }
