-- The line that is written for a contract row and for a node record, and which of them a file may hold. A number is
-- written as its decimal digits, a price below 0 with a minus before them.
use Rattle.std.specs.Prelude.{ℕ, List, [], ◌∷◌, ◌++◌, decimal}
use Rattle.std.specs.Fmt.{signed_decimal}
use Rattle.contracts.specs.declared.rows.ContractRow.{ContractRow}
use Rattle.credits.specs.declared.nodes.NodeRecord.{NodeRecord}
use Rattle.files.specs.Fields.{Small, SmallPrice, SmallNext, next_text}

-- what stands between two fields
abbrev pub comma : List ℕ
comma = 44 ∷ []

-- what stands after the last
abbrev pub newline : List ℕ
newline = 10 ∷ []

-- party, capacity, receipt, delivery and next
abbrev pub contract_line : ContractRow → List ℕ
contract_line row =
    decimal row.party ++ comma ++ decimal row.capacity ++ comma ++ decimal row.receipt ++ comma ++ decimal row.delivery ++ comma ++ next_text row.next ++ newline

-- no number above 2,000,000,000
pub record WritableRow (row : ContractRow) : Type 0 where
  pub party : Small row.party
  pub capacity : Small row.capacity
  pub receipt : Small row.receipt
  pub delivery : Small row.delivery
  pub next : SmallNext row.next

-- the two deviations, and then the two prices
abbrev pub node_line : NodeRecord → List ℕ
node_line node =
    decimal node.fifteen_minute_deviation ++ comma ++ decimal node.dispatch_deviation ++ comma ++ signed_decimal node.fifteen_minute_price ++ comma ++ signed_decimal node.dispatch_price ++ newline

-- no deviation above 2,000,000,000, no price farther from 0
pub record WritableNode (node : NodeRecord) : Type 0 where
  pub fifteen_minute_deviation : Small node.fifteen_minute_deviation
  pub dispatch_deviation : Small node.dispatch_deviation
  pub fifteen_minute_price : SmallPrice node.fifteen_minute_price
  pub dispatch_price : SmallPrice node.dispatch_price
