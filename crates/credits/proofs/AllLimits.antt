-- The limits of prices, legs and credits. Assumes nothing.
use Rattle.std.proofs.Common.{◌≡◌, ℕ, ◌≤◌, true, List, ℤ, nat_abs, None, arith}
use Rattle.std.proofs.lemmas.Int.{ints}
use Rattle.contracts.specs.declared.rows.ContractRow.{ContractRow}
use Rattle.credits.specs.declared.nodes.NodeRecord.{NodeRecord}
use Rattle.credits.specs.Prices.{node_at, within_bounds}
use Rattle.credits.specs.Faults.{node_fault, row_fault}
use Rattle.credits.specs.Legs.{node_leg, row_credit}
use Rattle.credits.specs.Limits.{Limits}
use Rattle.credits.proofs.PriceLimits.{weighted_price_le}
use Rattle.credits.proofs.LegLimits.{leg_le}

-- a node without a fault has a record within bounds
pub sound_node : (nodes : List NodeRecord) (n : ℕ) → node_fault nodes n ≡ None → within_bounds (node_at nodes n) ≡ true
sound_node nodes n h = grind arith

-- the nodes of a row without a fault have none
pub sound_row : (nodes : List NodeRecord) (row : ContractRow) → row_fault nodes row ≡ None → (node_fault nodes row.receipt ≡ None) × (node_fault nodes row.delivery ≡ None)
sound_row nodes row h = grind arith

pub node_leg_le : (nodes : List NodeRecord) (b : ℤ) (n : ℕ) → nat_abs b ≤ 1000000 → node_fault nodes n ≡ None → nat_abs (node_leg nodes b n) ≤ 100000000
node_leg_le nodes b n small h = leg_le b _ small (weighted_price_le (node_at nodes n) (sound_node nodes n h))

pub row_credit_le : (nodes : List NodeRecord) (b : ℤ) (row : ContractRow) → nat_abs b ≤ 1000000 → row_fault nodes row ≡ None → nat_abs (row_credit nodes b row) ≤ 200000000
row_credit_le nodes b row small h =
    let sound = sound_row nodes row h in
    let receipt = node_leg_le nodes b row.receipt small sound.0 in
    let delivery = node_leg_le nodes b row.delivery small sound.1 in
    omega (arith, ints)

pub limits : Limits
limits = record { price = weighted_price_le; leg_cents = leg_le; credit = row_credit_le }
