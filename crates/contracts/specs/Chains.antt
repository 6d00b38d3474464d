-- Contract rows and their chains. A row is named by its place in the table.
use Rattle.std.specs.Prelude.{◌≡◌, ℕ, zero, suc, ◌<◌, ◌≤◌, min, Bool, true, false, cond, ◌⊎◌, List, [], ◌∷◌, length, Some, None, fold, Option, nat_lt, slice_index, slice_index_or}
use Rattle.contracts.specs.declared.rows.ContractRow.{ContractRow}

-- what a read past the last row gives: a row without next
abbrev pub no_row : ContractRow
no_row = record { party = 0; capacity = 0; receipt = 0; delivery = 0; next = None }

-- the row at place i
abbrev pub row_at : List ContractRow → ℕ → ContractRow
row_at rows i = slice_index_or rows i no_row

-- where a chain begins that is to begin at row i: none if there is no such row
abbrev pub head_of : List ContractRow → ℕ → Option ℕ
head_of rows i = cond (nat_lt i (length rows)) (Some i) None

-- These rows, in this order, are the chain that begins at a row, or at none. It ends: its last row has no next.
pub data Chain (rows : List ContractRow) : Option ℕ → List ℕ → Type 0 where
  done : Chain rows None []
  goes : {i : ℕ} {is : List ℕ} → Chain rows (row_at rows i).next is → Chain rows (Some i) (i ∷ is)

-- what is said of the chain that begins at a row, or at none
abbrev pub OfChain : List ContractRow → Option ℕ → (List ℕ → Type 0) → Type 0
OfChain rows start P = (is : List ℕ) → Chain rows start is → P is

-- the chain from row i ends
pub record Ends (rows : List ContractRow) (i : ℕ) : Type 0 where
  pub members : List ℕ
  pub chain : Chain rows (Some i) members

-- whether none is reached within n rows
abbrev pub reaches_none : List ContractRow → ℕ → Option ℕ → Bool
reaches_none rows n None = true
reaches_none rows zero (Some i) = false
reaches_none rows (suc n) (Some i) = reaches_none rows n (row_at rows i).next

-- what is asked of a row beside its capacity: its next, if it has one, is a row of the table,
pub record NextInTable (rows : List ContractRow) (row : ContractRow) : Type 0 where
  pub in_table : (j : ℕ) → row.next ≡ Some j → j < length rows

-- and begins at the node where the row ends
pub record Meets (rows : List ContractRow) (row : ContractRow) : Type 0 where
  pub node : (j : ℕ) → row.next ≡ Some j → row.delivery ≡ (row_at rows j).receipt

-- the same, asked of the row at place i
abbrev pub NextInTableAt : List ContractRow → ℕ → Type 0
NextInTableAt rows i = NextInTable rows (row_at rows i)

abbrev pub MeetsAt : List ContractRow → ℕ → Type 0
MeetsAt rows i = Meets rows (row_at rows i)

-- the capacity of the row at place i is within bounds
abbrev pub CapacityWithinAt : List ContractRow → ℕ → Type 0
CapacityWithinAt rows i = (row_at rows i).capacity ≤ 1000000

-- asked of every row of the table
abbrev pub Each : (List ContractRow → ℕ → Type 0) → List ContractRow → Type 0
Each good rows = (i : ℕ) → i < length rows → good rows i

-- row i is the lowest that fails
pub record Lowest (good : List ContractRow → ℕ → Type 0) (rows : List ContractRow) (i : ℕ) : Type 0 where
  pub here : i < length rows
  pub fails : good rows i → ⊥
  pub before : (k : ℕ) → k < i → good rows k

-- a table that passes the check
pub record Sound (rows : List ContractRow) : Type 0 where
  pub small : length rows ≤ 256
  pub capacities : Each CapacityWithinAt rows
  pub leads : Each NextInTableAt rows
  pub meets : Each MeetsAt rows
  pub ends : Each Ends rows

-- row j leads to row i
abbrev pub LeadsTo : List ContractRow → ℕ → ℕ → Type 0
LeadsTo rows i j = (row_at rows j).next ≡ Some i

-- a chain begins at row i: no row leads to it
pub record Head (rows : List ContractRow) (i : ℕ) : Type 0 where
  pub here : i < length rows
  pub unnamed : (j : ℕ) → j < length rows → LeadsTo rows i j → ⊥

-- what a row carries of a quantity: no more than its capacity
abbrev pub carried_by : List ContractRow → ℕ → ℕ → ℕ
carried_by rows quantity i = min quantity (row_at rows i).capacity

-- what a chain carries of a quantity: the least of it and the capacities of its rows
abbrev pub carried : List ContractRow → ℕ → List ℕ → ℕ
carried rows quantity is = fold (carried_by rows) quantity is

-- the capacity of the row at place p of a chain
abbrev pub capacity_on : List ContractRow → List ℕ → ℕ → ℕ
capacity_on rows is p = (row_at rows (slice_index is p)).capacity

-- The least, in words: no more than the quantity or any capacity on the chain, and one of them.
pub record Least (rows : List ContractRow) (quantity : ℕ) (is : List ℕ) (least : ℕ) : Type 0 where
  pub most : least ≤ quantity
  pub each : (p : ℕ) → p < length is → least ≤ capacity_on rows is p
  pub one_of : (least ≡ quantity) ⊎ ((p : ℕ) × (p < length is) × (least ≡ capacity_on rows is p))
