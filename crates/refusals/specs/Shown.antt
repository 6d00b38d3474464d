-- How a refusal is written.
use Rattle.std.specs.Prelude.{ℕ, List, ◌++◌, codes, decimal}
use Rattle.refusals.specs.declared.Layer.{Layer}
use Rattle.refusals.specs.declared.Layer.TheVariants.{File, Table, Prices, Book}
use Rattle.refusals.specs.declared.Refusal.{Refusal}

-- the word for a layer
abbrev pub layer_word : Layer → List ℕ
layer_word File = codes "file"
layer_word Table = codes "table"
layer_word Prices = codes "prices"
layer_word Book = codes "book"

-- `refused`, the number, the layer and the place, with spaces between them
abbrev pub refusal_words : Refusal → List ℕ
refusal_words r = codes "refused " ++ (decimal r.number ++ (codes " " ++ (layer_word r.layer ++ (codes " " ++ decimal r.place))))
