-- Two small worked tables, whose nodes all meet.
use Rattle.std.specs.Prelude.{◌≡◌, ℕ, List, [], ◌∷◌, Some, None, Ok, Err, Option}
use Rattle.refusals.specs.declared.Layer.TheVariants.{Table}
use Rattle.contracts.specs.declared.rows.ContractRow.{ContractRow}
use Rattle.contracts.specs.declared.faults.TableFault.TheVariants.{Endless}
use Rattle.contracts.specs.Check.{Judged}
use Rattle.contracts.specs.Refusals.{table_refusal}

-- a row of capacity 1,000,000 from node 7 to node 7
abbrev leading_to : Option ℕ → ContractRow
leading_to next = record { party = 0; capacity = 1000000; receipt = 7; delivery = 7; next = next }

-- row 0 leads to row 1, row 1 to row 2, and row 2 back to row 1
abbrev pub circle : List ContractRow
circle = leading_to (Some 1) ∷ leading_to (Some 2) ∷ leading_to (Some 1) ∷ []

-- rows 0 and 1 both lead to row 2, the last
abbrev pub joining : List ContractRow
joining = leading_to (Some 2) ∷ leading_to (Some 2) ∷ leading_to None ∷ []

-- the first is refused with 5 at row 0, and the second passes
pub record Figures : Type 0 where
  pub circle_refused : Judged circle (Err (Endless 0))
  pub number_five : table_refusal (Endless 0) ≡ record { number = 5; layer = Table; place = 0 }
  pub joining_passes : Judged joining (Ok 3)
