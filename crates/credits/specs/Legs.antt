-- The legs of a contract row at a balanced quantity b, and the row's credit, in cents.
use Rattle.std.specs.Prelude.{ℕ, List, ℤ, ◌-ℤ◌, ◌*ℤ◌}
use Rattle.rounding.specs.Nearest.{nearest}
use Rattle.contracts.specs.declared.rows.ContractRow.{ContractRow}
use Rattle.credits.specs.declared.nodes.NodeRecord.{NodeRecord}
use Rattle.credits.specs.Prices.{node_at, weighted_price}

-- quantity × price, in millionths of a cent, to the nearest cent
unfoldable pub leg : ℤ → ℤ → ℤ
leg b price = nearest (b *ℤ price) 1000000

abbrev pub node_leg : List NodeRecord → ℤ → ℕ → ℤ
node_leg nodes b n = leg b (weighted_price (node_at nodes n))

-- the receipt leg less the delivery leg
abbrev pub row_credit : List NodeRecord → ℤ → ContractRow → ℤ
row_credit nodes b row = node_leg nodes b row.receipt -ℤ node_leg nodes b row.delivery
