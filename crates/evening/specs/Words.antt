-- What the words of the command line ask for, and why they are refused. A word is the list of its bytes.
use Rattle.std.specs.Prelude.{◌≡◌, ℕ, ◌^◌, ◌<◌, List, [], length, drop, ℤ, FitsSigned, slice_index, slice_index_or}
use Rattle.std.specs.Int.{w64}
use Rattle.std.specs.Str.Parse.{IsNumeral, without_leading_plus, without_leading_sign, signed_digits_value, digits_value}
use Rattle.sharing.specs.Beyond.{Beyond}
use Rattle.evening.specs.declared.reading.TaskFault.{TaskFault}
use Rattle.evening.specs.declared.reading.TaskFault.TheVariants.{NoAmount, AmountNoNumber, WeightNoNumber, Bounds, Memory}

-- an amount is an optional sign and decimal digits, and fits 64 bits
abbrev pub IsAmount : List ℕ → Type 0
IsAmount word = IsNumeral 10 (without_leading_sign word) × FitsSigned w64 (signed_digits_value 10 word)

-- the number that it writes
abbrev pub amount_of : List ℕ → ℤ
amount_of word = signed_digits_value 10 word

-- a weight is an optional plus and decimal digits, and fits 32 bits
abbrev pub IsWeight : List ℕ → Type 0
IsWeight word = IsNumeral 10 (without_leading_plus word) × (digits_value 10 (without_leading_plus word) < 2 ^ 32)

-- the number that it writes
abbrev pub weight_of : List ℕ → ℕ
weight_of word = digits_value 10 (without_leading_plus word)

-- the word at place i; past the last, one of no bytes
abbrev pub word_at : List (List ℕ) → ℕ → List ℕ
word_at words i = slice_index_or words i []

-- the words are weights, and these
pub record Weighed (words : List (List ℕ)) (ws : List ℕ) : Type 0 where
  pub count : length ws ≡ length words
  pub each : (i : ℕ) → i < length words → IsWeight (word_at words i) × (slice_index ws i ≡ weight_of (word_at words i))

-- the word at place i is the first that is no weight
pub record FirstWrong (words : List (List ℕ)) (i : ℕ) : Type 0 where
  pub within : i < length words
  pub before : (k : ℕ) → k < i → IsWeight (word_at words k)
  pub wrong : IsWeight (word_at words i) → ⊥

-- why words are no weights: the first that is none, or want of memory
abbrev pub Unweighed : List (List ℕ) → TaskFault → Type 0
Unweighed words NoAmount = ⊥
Unweighed words AmountNoNumber = ⊥
Unweighed words (WeightNoNumber i) = FirstWrong words i
Unweighed words (Bounds e) = ⊥
Unweighed words Memory = Unit {0}

-- the words ask to share the amount f over the weights ws: the first word is the amount, and the others the weights
pub record Asked (words : List (List ℕ)) (f : ℤ) (ws : List ℕ) : Type 0 where
  pub some : 0 < length words
  pub amount : IsAmount (word_at words 0) × (f ≡ amount_of (word_at words 0))
  pub weights : Weighed (drop 1 words) ws

-- why words are refused: of the first four at most one holds of any words; want of memory may be named for any
abbrev pub Refuses : List (List ℕ) → TaskFault → Type 0
Refuses words NoAmount = length words ≡ 0
Refuses words AmountNoNumber = (0 < length words) × (IsAmount (word_at words 0) → ⊥)
Refuses words (WeightNoNumber i) = IsAmount (word_at words 0) × FirstWrong (drop 1 words) i
Refuses words (Bounds e) = (f : ℤ) × (ws : List ℕ) × Asked words f ws × Beyond f ws e
Refuses words Memory = Unit {0}
