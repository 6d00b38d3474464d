-- Why a node has no price, and what a call answers by that.
use Rattle.std.specs.Prelude.{◌≡◌, ℕ, cond, List, length, Some, None, Ok, Err, Option, Result, nat_lt}
use Rattle.refusals.specs.declared.Refusal.{Refusal}
use Rattle.refusals.specs.declared.Layer.TheVariants.{Book}
use Rattle.refusals.specs.declared.Layer.TheVariants as layer
use Rattle.contracts.specs.declared.rows.ContractRow.{ContractRow}
use Rattle.credits.specs.declared.nodes.NodeRecord.{NodeRecord}
use Rattle.credits.specs.declared.faults.PriceFault.{PriceFault}
use Rattle.credits.specs.declared.faults.PriceFault.TheVariants.{NoRecord, OutOfBounds}
use Rattle.credits.specs.declared.faults.Scheduled.{Scheduled}
use Rattle.credits.specs.declared.faults.Scheduled.TheVariants.{Demand, Supply, DayAhead}
use Rattle.credits.specs.declared.faults.CreditFault.{CreditFault}
use Rattle.credits.specs.declared.faults.CreditFault.TheVariants.{Table, Quantity, Prices}
use Rattle.contracts.specs.Refusals.{table_refusal}
use Rattle.credits.specs.Prices.{node_at, within_bounds}

-- the refusal by a fault: its number, and the node for its place
abbrev pub price_refusal : PriceFault → Refusal
price_refusal (NoRecord n) = record { number = 15; layer = layer.Prices; place = n }
price_refusal (OutOfBounds n) = record { number = 16; layer = layer.Prices; place = n }

-- the place of a quantity of the schedule
abbrev pub scheduled_place : Scheduled → ℕ
scheduled_place Demand = 0
scheduled_place Supply = 1
scheduled_place DayAhead = 2

-- the refusal by a fault of a chain's credits: a fault of the table or of the prices keeps its own
abbrev pub credit_refusal : CreditFault → Refusal
credit_refusal (Table fault) = table_refusal fault
credit_refusal (Quantity quantity) = record { number = 14; layer = Book; place = scheduled_place quantity }
credit_refusal (Prices fault) = price_refusal fault

-- what is wrong with a node
abbrev pub node_fault : List NodeRecord → ℕ → Option PriceFault
node_fault nodes n =
    cond (nat_lt n (length nodes))
    (cond (within_bounds (node_at nodes n)) None (Some (OutOfBounds n)))
    (Some (NoRecord n))

-- the first fault of two that are judged in turn
abbrev pub first_fault : {F : Type 0} → Option F → Option F → Option F
first_fault (Some f) _ = Some f
first_fault None later = later

-- what is wrong with the nodes of a row, its receipt judged first
abbrev pub row_fault : List NodeRecord → ContractRow → Option PriceFault
row_fault nodes row = first_fault (node_fault nodes row.receipt) (node_fault nodes row.delivery)

-- a call answers what shows the value, unless there is a fault, which it then answers
abbrev pub AnswersBy : {A B F : Type 0} → (A → B) → Option F → B → Result A F → Type 0
AnswersBy view fault value (Ok x) = (fault ≡ None) × (view x ≡ value)
AnswersBy view fault value (Err f) = fault ≡ Some f

-- the same, where the answer is the value itself
abbrev pub Answers : {A F : Type 0} → Option F → A → Result A F → Type 0
Answers fault value r = AnswersBy (λ x. x) fault value r
