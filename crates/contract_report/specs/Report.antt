-- What is printed of a contract table: its row count or its refusal, and the rows of each of its chains.
use Rattle.std.specs.Prelude.{◌≡◌, ℕ, ◌<◌, List, [], ◌∷◌, ◌++◌, length, Some, codes, decimal, slice_index_or}
use Rattle.std.specs.List.{flat_map}
use Rattle.refusals.specs.declared.Refusal.{Refusal}
use Rattle.refusals.specs.Shown.{refusal_words}
use Rattle.contracts.specs.declared.rows.ContractRow.{ContractRow}
use Rattle.contracts.specs.declared.faults.TableFault.{TableFault}
use Rattle.contracts.specs.Chains.{row_at, Chain, Head, Sound}
use Rattle.contracts.specs.Check.{Fails}
use Rattle.contracts.specs.Refusals.{table_refusal}

-- a row of the chain that begins at row `head`
abbrev pub row_words : ℕ → ℕ → ContractRow → List ℕ
row_words head place row =
    codes "chain " ++ (decimal head ++ (codes ": row " ++ (decimal place ++ (codes " party " ++ (decimal row.party ++ (codes " capacity " ++ (decimal row.capacity ++ (codes " receipt " ++ (decimal row.receipt ++ (codes " delivery " ++ decimal row.delivery))))))))))

-- the same as a line
abbrev pub row_line : List ContractRow → ℕ → ℕ → List ℕ
row_line rows head place = row_words head place (row_at rows place) ++ (10 ∷ [])

-- a line for each row of the chain
abbrev pub chain_lines : List ContractRow → ℕ → List ℕ → List ℕ
chain_lines rows head is = flat_map (row_line rows head) is

-- what is printed at a row: the lines of the chain that begins there, and nothing where none does
pub record PrintedAt (rows : List ContractRow) (i : ℕ) (text : List ℕ) : Type 0 where
  pub head : Head rows i → (is : List ℕ) → Chain rows (Some i) is → text ≡ chain_lines rows i is
  pub other : (Head rows i → ⊥) → text ≡ []

-- the row count of a table that passes
abbrev pub count_line : ℕ → List ℕ
count_line n = codes "contracts: " ++ (decimal n ++ codes " rows\n")

-- the refusal of one that fails
abbrev pub refusal_line : Refusal → List ℕ
refusal_line r = codes "contracts: " ++ (refusal_words r ++ codes "\n")

-- What is printed of a table that passes: the row count, and then what is printed at each row in turn.
pub record ChainsText (rows : List ContractRow) (text : List ℕ) : Type 0 where
  pub parts : List (List ℕ)
  pub each_row : length parts ≡ length rows
  pub printed : (i : ℕ) → i < length rows → PrintedAt rows i (slice_index_or parts i [])
  pub whole : text ≡ count_line (length rows) ++ flat_map (λ part. part) parts

-- What is printed of any table: of one that fails, the refusal alone.
pub record Report (rows : List ContractRow) (text : List ℕ) : Type 0 where
  pub passes : Sound rows → ChainsText rows text
  pub fails : (fault : TableFault) → Fails rows fault → text ≡ refusal_line (table_refusal fault)
