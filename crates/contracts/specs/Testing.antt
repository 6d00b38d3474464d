-- What a test of the rows of a table is asked, and what it finds.
use Rattle.std.specs.Prelude.{◌≡◌, ℕ, ◌<◌, Bool, true, false, List, length}
use Rattle.std.specs.Borrow.{Bor}
use Rattle.contracts.specs.declared.rows.ContractRow.{ContractRow}
use Rattle.contracts.specs.Chains.{row_at}

-- a test may be called at each row of the table
abbrev pub TakesRows : (Bor ContractRow → Type 0) → List ContractRow → Type 0
TakesRows takes rows = (i : ℕ) (row : Bor ContractRow) → i < length rows → row.now ≡ row_at rows i → takes row

-- a test may answer `true` at the row at place i
abbrev pub PassesAt : (ContractRow → Bool → Type 0) → List ContractRow → ℕ → Type 0
PassesAt answers rows i = answers (row_at rows i) true

-- row i is the lowest at which a test answers `false`
pub record FirstFailing (answers : ContractRow → Bool → Type 0) (rows : List ContractRow) (i : ℕ) : Type 0 where
  pub here : i < length rows
  pub fails : answers (row_at rows i) false
  pub before : (k : ℕ) → k < i → answers (row_at rows k) true
