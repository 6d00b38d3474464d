-- The cells in which the credits of a chain stand. Assumes nothing.
use Rattle.std.specs.Prelude.{◌≡◌, ℕ, ◌-◌, ◌≤◌, List, ◌++◌, length, take, drop, replicate, ℤ, pos}
use Rattle.std.proofs.Common.{arith}
use Rattle.std.proofs.lemmas.List.{take-append-drop, length-take-le}

-- the cells for these credits: the spare ones are 0
abbrev pub padded : List ℤ → List ℤ
padded cents = cents ++ replicate (256 - length cents) (pos 0)

-- the first cells hold so many credits, and the spare ones are 0: so the credits alone tell every cell
pub record IsPadded (cells : List ℤ) (count : ℕ) : Type 0 where
  pub size : length cells ≡ 256
  pub room : count ≤ 256
  pub spare : drop count cells ≡ replicate (256 - count) (pos 0)

pub length-take : (cells : List ℤ) (count : ℕ) → IsPadded cells count → length (take count cells) ≡ count
length-take cells count p = length-take-le count cells (omega (arith, p.size, p.room))

pub padded-take : (cells : List ℤ) (count : ℕ) → IsPadded cells count → padded (take count cells) ≡ cells
padded-take cells count p = rw (length-take cells count p, ← p.spare) (take-append-drop count cells)
