-- The credits along a chain of contract rows.
use Rattle.std.specs.Prelude.{◌≡◌, ℕ, ◌<◌, ◌≤◌, min, cond, List, [], ◌∷◌, map, length, ℤ, pos, ◌+ℤ◌, ◌-ℤ◌, IfOk, Some, None, fold, Option, Result, nat_le, nat_lt, unsigned_abs}
use Rattle.contracts.specs.declared.rows.ContractRow.{ContractRow}
use Rattle.contracts.specs.declared.faults.TableFault.TheVariants.{NoHead}
use Rattle.contracts.specs.Chains.{row_at, head_of, Chain, carried}
use Rattle.credits.specs.declared.nodes.NodeRecord.{NodeRecord}
use Rattle.credits.specs.declared.schedule.Schedule.{Schedule}
use Rattle.credits.specs.declared.credited.ChainCredits.{ChainCredits}
use Rattle.credits.specs.declared.faults.PriceFault.{PriceFault}
use Rattle.credits.specs.declared.faults.Scheduled.{Scheduled}
use Rattle.credits.specs.declared.faults.Scheduled.TheVariants.{Demand, Supply, DayAhead}
use Rattle.credits.specs.declared.faults.CreditFault.{CreditFault}
use Rattle.credits.specs.declared.faults.CreditFault.TheVariants.{Table, Quantity, Prices}
use Rattle.credits.specs.Faults.{Answers, first_fault, row_fault}
use Rattle.credits.specs.Legs.{node_leg, row_credit}

-- the balanced quantity b: the least of demand, supply and the capacities along the chain, less the day-ahead portion
abbrev pub balanced : List ContractRow → List ℕ → Schedule → ℤ
balanced rows is s = pos (carried rows (min s.demand s.supply) is) -ℤ pos s.day_ahead

-- the credit of each row, in the chain's order
abbrev pub credits : List ContractRow → List NodeRecord → ℤ → List ℕ → List ℤ
credits rows nodes b is = map (λ i. row_credit nodes b (row_at rows i)) is

-- the first fault of a node, row by row along the chain
abbrev pub chain_fault : List ContractRow → List NodeRecord → List ℕ → Option PriceFault
chain_fault rows nodes [] = None
chain_fault rows nodes (i ∷ is) = first_fault (row_fault nodes (row_at rows i)) (chain_fault rows nodes is)

-- a quantity of the schedule over its limit
abbrev pub over_limit : Scheduled → ℕ → Option CreditFault
over_limit quantity amount = cond (nat_le amount 1000000) None (Some (Quantity quantity))

-- the first of them: demand, supply, day-ahead portion
abbrev pub schedule_fault : Schedule → Option CreditFault
schedule_fault s = first_fault (over_limit Demand s.demand) (first_fault (over_limit Supply s.supply) (over_limit DayAhead s.day_ahead))

-- a head that is no row
abbrev pub head_fault : List ContractRow → ℕ → Option CreditFault
head_fault rows head = cond (nat_lt head (length rows)) None (Some (Table NoHead))

-- a node's fault as a fault of the call
abbrev pub by_prices : Option PriceFault → Option CreditFault
by_prices None = None
by_prices (Some fault) = Some (Prices fault)

-- why a chain gets no credits: head, quantities and nodes are judged in this order
abbrev pub credit_fault : List ContractRow → ℕ → List NodeRecord → Schedule → List ℕ → Option CreditFault
credit_fault rows head nodes s is = first_fault (head_fault rows head) (first_fault (schedule_fault s) (by_prices (chain_fault rows nodes is)))

-- the sum of credits
abbrev pub total : List ℤ → ℤ
total cents = fold ◌+ℤ◌ (pos 0) cents

-- the last row of a chain that begins at row i
abbrev pub last_row : ℕ → List ℕ → ℕ
last_row i [] = i
last_row i (j ∷ js) = last_row j js

-- the receipt leg of the first row less the delivery leg of the last
abbrev pub outer_legs : List ContractRow → List NodeRecord → ℤ → ℕ → List ℕ → ℤ
outer_legs rows nodes b head is = node_leg nodes b (row_at rows head).receipt -ℤ node_leg nodes b (row_at rows (last_row head is)).delivery

-- What a call answers for the chain from row `head`: the credits of its rows, or the first fault. Credits that are answered
-- add up to the outer legs.
pub record Credited (rows : List ContractRow) (head : ℕ) (nodes : List NodeRecord) (s : Schedule) (r : Result ChainCredits CreditFault) : Type 0 where
  pub members : List ℕ
  pub chain : Chain rows (head_of rows head) members
  pub gives : Answers (credit_fault rows head nodes s members) (credits rows nodes (balanced rows members s) members) r
  pub adds_up : IfOk r (λ cents. total cents ≡ outer_legs rows nodes (balanced rows members s) head members)

-- Along a chain of the table each delivery leg is the next receipt leg: the credits add up to the first receipt leg less
-- the last delivery leg.
abbrev pub InnerLegsCancel : List ContractRow → Type 0
InnerLegsCancel rows = (nodes : List NodeRecord) (b : ℤ) (i : ℕ) (is : List ℕ) → i < length rows → Chain rows (Some i) is → total (credits rows nodes b is) ≡ outer_legs rows nodes b i is

-- So the credits of a whole chain without a fault are together at most 2,000,000 dollars either way.
abbrev pub TotalWithin : List ContractRow → Type 0
TotalWithin rows = (nodes : List NodeRecord) (b : ℤ) (i : ℕ) (is : List ℕ) → unsigned_abs b ≤ 1000000 → i < length rows → Chain rows (Some i) is → chain_fault rows nodes is ≡ None → unsigned_abs (total (credits rows nodes b is)) ≤ 200000000
