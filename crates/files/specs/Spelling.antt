-- What plain digits write, in words of `decimal` and `signed_decimal`. Assumes nothing.
use Rattle.std.specs.Prelude.{◌≡◌, ℕ, zero, suc, ◌+◌, ◌*◌, ◌^◌, ◌<◌, List, [], ◌∷◌, length, take, drop, ℤ, pos, negsuc, neg_ℤ, Some, None, Ok, decimal, Option, Result, MatchOption, ◌≢◌, slice_index, refl}
use Rattle.std.proofs.Common.{sym, ap, subst, ◌∙◌, arith}
use Rattle.std.specs.Int.Signed.{mag}
use Rattle.std.specs.Str.Parse.{AllDigits, digits_value, ParsesUnsigned}
use Rattle.std.specs.Int.{IsInRange}
use Rattle.std.specs.Char.{digit_value}
use Rattle.std.specs.Fmt.{signed_decimal}
use Rattle.std.proofs.lemmas.Fmt.{decimal_digit, decimal_nonempty, decimal-digits_value, digits_decimal, first_decimal, decimal_injective, signed_decimal_injective, digits_value-decimal}
use Rattle.std.proofs.lemmas.Int.Digits.{digits_more, digits_value_more}
use Rattle.std.proofs.lemmas.Str.{digit_value_digit}
use Rattle.std.proofs.lemmas.Str.Parse.{IsNumeralModel, digit_at, digits_value-take-le, parse_gives, not_in_digits, numerals_by_value, tells_digits}
use Rattle.files.specs.Fields.{Small, SmallPrice, SmallNext, next_text, Unpadded, Valued, IsText, NoText, Lacks}

plain : IsNumeralModel (AllDigits 10) (digits_value 10)
plain = numerals_by_value (AllDigits 10) tells_digits

-- one digit more, after those so far
pub valued_more : (field : List ℕ) (i n m : ℕ) → i < length field → Valued (take i field) n → digit_value (slice_index field i) < 10 → Small m → m ≡ n * 10 + digit_value (slice_index field i) → Valued (take (i + 1) field) m
valued_more field i n m within so_far digit small is =
    record { digits = digits_more 10 field i within so_far.digits digit; is = omega (arith, digits_value_more 10 field i within, so_far.is); small = small }

-- where there is none, the field is no digits of a small value
pub unvalued_at : (field : List ℕ) (i n : ℕ) → i < length field → Valued (take i field) n → ((digit_value (slice_index field i) < 10) × Small (n * 10 + digit_value (slice_index field i)) → ⊥) → (m : ℕ) → Valued field m → ⊥
unvalued_at field i n within so_far none m v =
    let digit = digit_at field i v.digits within in
    none (omega (arith, digit_value_digit (slice_index field i) digit), omega (arith, digits_value_more 10 field i within, digits_value-take-le 10 field (i + 1) (omega arith), v.is, v.small, so_far.is))

some_from_digit : (field : List ℕ) → IsInRange 48 57 (slice_index field 0) → 0 < length field
some_from_digit [] digit = absurd (omega (arith, digit))
some_from_digit (b ∷ bs) digit = omega arith

-- what begins with a digit and is not parsed is no digits of a small value
pub unvalued : {E : Type 0} (field : List ℕ) (r : Result ℕ E) → IsInRange 48 57 (slice_index field 0) → ParsesUnsigned 32 10 field r → ((x : ℕ) → r ≡ Ok x → ⊥) → (n : ℕ) → Valued field n → ⊥
unvalued field r digit parsed none n v =
    none (digits_value 10 field) (parse_gives plain 32 field r parsed v.digits (some_from_digit field digit) (omega (arith, v.is, v.small)))

-- digits with no 0 too many are what is written of their value
pub text_from_valued : (field : List ℕ) (n : ℕ) → Unpadded field → Valued field n → IsText decimal Small field n
text_from_valued field n u v =
    let back = decimal-digits_value plain field v.digits u.some u.alone (omega (arith, v.is, v.small)) in
    record { fine = v.small; written = sym back ∙ ap decimal (sym v.is) }

-- what is no digits of a small value is not written of a small number
pub no_text_from_valued : (field : List ℕ) → ((n : ℕ) → Valued field n → ⊥) → NoText decimal Small field
no_text_from_valued field none n small e =
    let low : n < 2 ^ 64 = omega arith in
    none n record { digits = subst (AllDigits 10) (sym e) (digits_decimal plain n low); is = sym (ap (digits_value 10) e ∙ digits_value-decimal plain n low); small = small }

-- what is written of a number has no 0 too many
pub unpadded_decimal : (n : ℕ) → n < 2 ^ 64 → Unpadded (decimal n)
unpadded_decimal zero low = record { some = decimal_nonempty 0 low; alone = λ _. ap length (decimal_digit 0 (omega arith)) }
unpadded_decimal (suc k) low =
    record { some = decimal_nonempty (suc k) low; alone = λ e. absurd (omega (arith, e, first_decimal (suc k) (omega arith) low)) }

-- and begins with a digit
pub no_text_from_unspelled : (field : List ℕ) → (Unpadded field → IsInRange 48 57 (slice_index field 0) → ⊥) → NoText decimal Small field
no_text_from_unspelled field none n small e =
    let low : n < 2 ^ 64 = omega arith in
    let first = digit_at (decimal n) 0 (digits_decimal plain n low) (decimal_nonempty n low) in
    none (subst Unpadded (sym e) (unpadded_decimal n low)) (subst (λ ds. IsInRange 48 57 (slice_index ds 0)) (sym e) first)

pub no_text_from_padded : (field : List ℕ) → (Unpadded field → ⊥) → NoText decimal Small field
no_text_from_padded field padded = no_text_from_unspelled field (λ unpadded digit. padded unpadded)

-- a reading by cases, from another
pub cases_from : {X : Type 0} (o : Option X) {P P' : Type 0} {Q Q' : X → Type 0} → MatchOption o P Q → (P → P') → ((x : X) → Q x → Q' x) → MatchOption o P' Q'
cases_from None h none some = none h
cases_from (Some x) h none some = some x h

-- a field that is not empty is no number only if it is none at all
pub no_next : (field : List ℕ) → 0 < length field → NoText decimal Small field → NoText next_text SmallNext field
no_next field some none None fine e = omega (arith, ap length e)
no_next field some none (Some n) fine e = none n fine e

-- the digits of a number lack every other byte
pub decimal_lacks : (b n : ℕ) → (IsInRange 48 57 b → ⊥) → Small n → Lacks b (decimal n)
decimal_lacks b n other small = let low : n < 2 ^ 64 = omega arith in not_in_digits plain (decimal n) b (digits_decimal plain n low) other

-- a minus is followed by the digits of a number above 0
pub no_minus : (ds : List ℕ) → ((n : ℕ) → Small (suc n) → ds ≢ decimal (suc n)) → NoText signed_decimal SmallPrice (45 ∷ ds)
no_minus ds none (pos n) small e =
    let low : n < 2 ^ 64 = omega arith in
    decimal_lacks 45 n (λ h. omega arith) small 0 (decimal_nonempty n low) (sym (ap (λ xs. slice_index xs 0) e))
no_minus ds none (negsuc n) small e = none n small (ap (drop 1) e)

pub no_minus_nothing : (ds : List ℕ) → NoText decimal Small ds → NoText signed_decimal SmallPrice (45 ∷ ds)
no_minus_nothing ds none = no_minus ds (λ n. none (suc n))

pub no_minus_zero : (ds : List ℕ) → IsText decimal Small ds 0 → NoText signed_decimal SmallPrice (45 ∷ ds)
no_minus_zero ds zero_is =
    no_minus ds (λ n small e. omega (arith, decimal_injective 0 (suc n) (omega arith) (omega arith) (sym zero_is.written ∙ e)))

pub minus_text : (ds : List ℕ) (n : ℕ) → 0 < n → IsText decimal Small ds n → IsText signed_decimal SmallPrice (45 ∷ ds) (neg_ℤ (pos n))
minus_text ds zero above t = absurd (omega arith)
minus_text ds (suc n) above t = record { fine = t.fine; written = ap (λ xs. 45 ∷ xs) t.written }

-- a field that does not begin with a minus
pub no_price : (field : List ℕ) → ((ds : List ℕ) → field ≢ 45 ∷ ds) → NoText decimal Small field → NoText signed_decimal SmallPrice field
no_price field plus none (pos n) small e = none n small e
no_price field plus none (negsuc n) small e = plus (decimal (suc n)) e

pub price_text : (field : List ℕ) (n : ℕ) → IsText decimal Small field n → IsText signed_decimal SmallPrice field (pos n)
price_text field n t = record { fine = t.fine; written = t.written }

mag_small : (z : ℤ) → SmallPrice z → mag z < 2 ^ 63
mag_small (pos n) small = omega arith
mag_small (negsuc n) small = omega arith

-- no two values have one text
pub one_decimal : (m n : ℕ) → Small m → Small n → decimal m ≡ decimal n → m ≡ n
one_decimal m n small small' e = decimal_injective m n (omega arith) (omega arith) e

pub one_next : (o p : Option ℕ) → SmallNext o → SmallNext p → next_text o ≡ next_text p → o ≡ p
one_next None None small small' e = refl
one_next None (Some n) small small' e = absurd (omega (arith, ap length e, decimal_nonempty n (omega arith)))
one_next (Some m) None small small' e = absurd (omega (arith, ap length e, decimal_nonempty m (omega arith)))
one_next (Some m) (Some n) small small' e = ap (λ k. Some k) (one_decimal m n small small' e)

pub one_signed : (y z : ℤ) → SmallPrice y → SmallPrice z → signed_decimal y ≡ signed_decimal z → y ≡ z
one_signed y z small small' e = signed_decimal_injective y z (mag_small y small) (mag_small z small') e
