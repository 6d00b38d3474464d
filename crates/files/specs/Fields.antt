-- The fields of a line, said by what is written for a value. A text is the list of its bytes: 44 is the comma, 45 the
-- minus, 48 the digit 0.
use Rattle.std.specs.Prelude.{◌≡◌, ℕ, ◌<◌, ◌≤◌, List, [], ◌∷◌, ◌++◌, length, ℤ, Some, None, decimal, Option, ◌≢◌, slice_index, slice_index_or, unsigned_abs}
use Rattle.std.specs.Str.Parse.{AllDigits, digits_value}

-- a number that a file may hold
abbrev pub Small : ℕ → Type 0
Small n = n ≤ 2000000000

-- a price that a file may hold
abbrev pub SmallPrice : ℤ → Type 0
SmallPrice z = unsigned_abs z ≤ 2000000000

-- a number that a file may hold, or none
abbrev pub SmallNext : Option ℕ → Type 0
SmallNext None = Unit {0}
SmallNext (Some n) = Small n

-- the text of a number or of none: its digits, or nothing
abbrev pub next_text : Option ℕ → List ℕ
next_text None = []
next_text (Some n) = decimal n

-- the field is the text of a value that a file may hold
pub record IsText {X : Type 0} (text : X → List ℕ) (Fine : X → Type 0) (field : List ℕ) (x : X) : Type 0 where
  pub fine : Fine x
  pub written : field ≡ text x

-- the field is the text of no such value
abbrev pub NoText : {X : Type 0} (text : X → List ℕ) (Fine : X → Type 0) (field : List ℕ) → Type 0
NoText {X} text Fine field = (x : X) → Fine x → field ≢ text x

-- the field has a byte, and begins with a 0 only if that is all
pub record Unpadded (field : List ℕ) : Type 0 where
  pub some : 0 < length field
  pub alone : slice_index_or field 0 0 ≡ 48 → length field ≡ 1

-- the field is digits, and these have the value n, which a file may hold
pub record Valued (field : List ℕ) (n : ℕ) : Type 0 where
  pub digits : AllDigits 10 field
  pub is : n ≡ digits_value 10 field
  pub small : Small n

-- a byte is nowhere in a text
abbrev pub Lacks : ℕ → List ℕ → Type 0
Lacks b text = (k : ℕ) → k < length text → slice_index text k ≢ b

-- the first such byte stands at place i
pub record FirstAt (b : ℕ) (text : List ℕ) (i : ℕ) : Type 0 where
  pub inside : i < length text
  pub here : slice_index text i ≡ b
  pub before : (k : ℕ) → k < i → slice_index text k ≢ b

-- the bytes are a field, the first byte of this kind, and the rest
pub record Ended (end : ℕ) (bytes field rest : List ℕ) : Type 0 where
  pub whole : bytes ≡ field ++ end ∷ rest
  pub first : Lacks end field

-- a text, and the byte that ends it
abbrev pub ended : {X : Type 0} → ℕ → (X → List ℕ) → X → List ℕ
ended end text x = text x ++ end ∷ []

-- the bytes begin with the text of a value that a file may hold, and the rest follows
pub record Front {X : Type 0} (text : X → List ℕ) (Fine : X → Type 0) (bytes : List ℕ) (x : X) (rest : List ℕ) : Type 0 where
  pub fine : Fine x
  pub written : bytes ≡ text x ++ rest

-- the bytes begin with the text of no such value
abbrev pub NoFront : {X : Type 0} (text : X → List ℕ) (Fine : X → Type 0) (bytes : List ℕ) → Type 0
NoFront {X} text Fine bytes = (x : X) (rest : List ℕ) → Fine x → bytes ≢ text x ++ rest

-- bytes begin with the text of one such value at most, and one rest follows
abbrev pub OneFront : {X : Type 0} (text : X → List ℕ) (Fine : X → Type 0) → Type 0
OneFront {X} text Fine =
    (bytes : List ℕ) (x y : X) (r s : List ℕ) → Front text Fine bytes x r → Front text Fine bytes y s → (x ≡ y) × (r ≡ s)
