-- The words of a slice. Assumes nothing.
use Rattle.std.proofs.Common.{◌≡◌, ℕ, ◌<◌, List, [], map, length, get_or, sym, ap, ◌∙◌}
use Rattle.std.proofs.lemmas.List.{get_or-map}
use Rattle.evening.specs.Words.{word_at}

-- a word that is read at place i
pub word_is : {X : Type 0} (f : X → List ℕ) (xs : List X) (i : ℕ) (x : X) → i < length xs → x ≡ get_or xs i x → f x ≡ word_at (map f xs) i
word_is f xs i x h e = ap f e ∙ sym (get_or-map f xs i x [] h)
