-- What the check of a contract table answers. Each test goes over all rows before the next begins.
use Rattle.std.specs.Prelude.{◌≡◌, ℕ, ◌<◌, ◌≤◌, List, length, Some, Ok, Err, IsTrue, ◌↔◌, Result, slice_index}
use Rattle.contracts.specs.declared.rows.ContractRow.{ContractRow}
use Rattle.contracts.specs.declared.faults.TableFault.{TableFault}
use Rattle.contracts.specs.declared.faults.TableFault.TheVariants.{TooManyRows, Capacity, NextNoRow, NodesApart, Endless, NoHead}
use Rattle.contracts.specs.Chains.{CapacityWithinAt, NextInTableAt, MeetsAt, Ends, Each, Lowest, Sound, Chain, reaches_none}

-- why a table fails: all tests before this one pass, and the row is the lowest that fails it
abbrev pub Fails : List ContractRow → TableFault → Type 0
Fails rows TooManyRows = 256 < length rows
Fails rows (Capacity i) = (length rows ≤ 256) × Lowest CapacityWithinAt rows i
Fails rows (NextNoRow i) = (length rows ≤ 256) × Each CapacityWithinAt rows × Lowest NextInTableAt rows i
Fails rows (NodesApart i) = (length rows ≤ 256) × Each CapacityWithinAt rows × Each NextInTableAt rows × Lowest MeetsAt rows i
Fails rows (Endless i) = (length rows ≤ 256) × Each CapacityWithinAt rows × Each NextInTableAt rows × Each MeetsAt rows × Lowest Ends rows i
Fails rows NoHead = ⊥

-- the answer is the row count of a table that passes, or why it fails
abbrev pub Judged : List ContractRow → Result ℕ TableFault → Type 0
Judged rows (Ok n) = Sound rows × (n ≡ length rows)
Judged rows (Err fault) = Fails rows fault

-- One answer only is right for a table.
abbrev pub OneAnswer : List ContractRow → Type 0
OneAnswer rows = (r s : Result ℕ TableFault) → Judged rows r → Judged rows s → r ≡ s

-- Where every next is a row of the table:
pub record WithinRows (rows : List ContractRow) : Type 0 where
  -- a chain ends if and only if it reaches none within as many rows as the table has;
  pub reaches : (i : ℕ) → i < length rows → (IsTrue (reaches_none rows (length rows) (Some i)) ↔ Ends rows i)
  -- a chain that ends has no row twice,
  pub no_row_twice : (i : ℕ) (is : List ℕ) → i < length rows → Chain rows (Some i) is → (p q : ℕ) → p < length is → q < length is → slice_index is p ≡ slice_index is q → p ≡ q
  -- and so no more rows than the table
  pub short : (i : ℕ) (is : List ℕ) → i < length rows → Chain rows (Some i) is → length is ≤ length rows
