-- Files of lines: reading is the inverse of writing. `line` is what is written for a row, and Writable says which rows a
-- file may hold.
use Rattle.std.specs.Prelude.{◌≡◌, ℕ, ◌+◌, ◌<◌, List, ◌++◌, length, codes, decimal}
use Rattle.std.specs.List.{flat_map, AllByRecursion}
use Rattle.files.specs.declared.reading.FileFault.{FileFault}
use Rattle.files.specs.declared.reading.FileFault.TheVariants.{Unreadable, Memory}
use Rattle.files.specs.Fields.{NoFront}

-- the bytes are the lines of these rows, one after another
pub record ReadsAs {Row : Type 0} (line : Row → List ℕ) (Writable : Row → Type 0) (bytes : List ℕ) (rows : List Row) : Type 0 where
  pub writable : AllByRecursion Writable rows
  pub written : bytes ≡ flat_map line rows

-- the bytes begin with the lines of some rows, and what is left after them, the line of number n and on, is not nothing
-- and does not begin with the line of any row
pub record FirstUnreadable {Row : Type 0} (line : Row → List ℕ) (Writable : Row → Type 0) (bytes : List ℕ) (n : ℕ) : Type 0 where
  pub rows : List Row
  pub left : List ℕ
  pub writable : AllByRecursion Writable rows
  pub written : bytes ≡ flat_map line rows ++ left
  pub number : n ≡ length rows + 1
  pub some : 0 < length left
  pub unreadable : NoFront line Writable left

-- why a file is refused; want of memory may be named for any
abbrev pub Refuses : {Row : Type 0} → (Row → List ℕ) → (Row → Type 0) → List ℕ → FileFault → Type 0
Refuses line Writable bytes (Unreadable n) = FirstUnreadable line Writable bytes n
Refuses line Writable bytes Memory = Unit {0}

-- what is printed of a fault
abbrev pub fault_words : FileFault → List ℕ
fault_words (Unreadable n) = codes "unreadable line " ++ decimal n
fault_words Memory = codes "not enough memory"

-- One answer is right for the bytes of a file: one list of rows, or one line that is the first unreadable one.
pub record OneAnswer {Row : Type 0} (line : Row → List ℕ) (Writable : Row → Type 0) : Type 0 where
  pub read : (bytes : List ℕ) (xs ys : List Row) → ReadsAs line Writable bytes xs → ReadsAs line Writable bytes ys → xs ≡ ys
  pub not_both : (bytes : List ℕ) (xs : List Row) (n : ℕ) → ReadsAs line Writable bytes xs → FirstUnreadable line Writable bytes n → ⊥
  pub unreadable : (bytes : List ℕ) (m n : ℕ) → FirstUnreadable line Writable bytes m → FirstUnreadable line Writable bytes n → m ≡ n
