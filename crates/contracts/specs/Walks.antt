-- What walks along chains keep.
use Rattle.std.specs.Prelude.{◌≡◌, ℕ, zero, suc, ◌<◌, List, length, Some, None, Option, slice_index_or}
use Rattle.contracts.specs.declared.rows.ContractRow.{ContractRow}
use Rattle.contracts.specs.Chains.{row_at, Ends}

-- The check of chains: the walks from the first n rows were made, and all ended. A row has the number of the walk that saw
-- it first, if one did: each number is below n, and a row with one is known to end.
pub record Walked (rows : List ContractRow) (n : ℕ) (walks : List (Option ℕ)) : Type 0 where
  pub low : (k walk : ℕ) → slice_index_or walks k None ≡ Some walk → walk < n
  pub ends : (k walk : ℕ) → slice_index_or walks k None ≡ Some walk → Ends rows k

-- how many rows a walk has before it, if they are at most n
unfoldable pub rows_left : List ContractRow → ℕ → Option ℕ → ℕ
rows_left rows n None = 0
rows_left rows zero (Some i) = 0
rows_left rows (suc n) (Some i) = suc (rows_left rows n (row_at rows i).next)

-- the same in a table of which no chain is longer than the table
abbrev pub left_of : List ContractRow → Option ℕ → ℕ
left_of rows place = rows_left rows (length rows) place
