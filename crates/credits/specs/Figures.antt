-- Figures worked out by hand, of the very definitions that the contracts cite.
use Rattle.std.specs.Prelude.{◌≡◌, ℕ, true, false, List, [], ◌∷◌, ℤ, pos, neg_ℤ, Some, None}
use Rattle.contracts.specs.declared.rows.ContractRow.{ContractRow}
use Rattle.credits.specs.declared.nodes.NodeRecord.{NodeRecord}
use Rattle.credits.specs.Prices.{weighted_price, within_bounds}
use Rattle.credits.specs.declared.schedule.Schedule.{Schedule}
use Rattle.credits.specs.Legs.{leg}
use Rattle.credits.specs.Chains.{balanced, credits}

-- a record of two deviations and two prices
abbrev pub node : ℕ → ℕ → ℤ → ℤ → NodeRecord
node f d p q =
    record { fifteen_minute_deviation = f; dispatch_deviation = d; fifteen_minute_price = p; dispatch_price = q }

-- three nodes, of the weighted prices 200,000, 700,000 and 1,000,000
abbrev pub three_nodes : List NodeRecord
three_nodes =
    node 0 0 (pos 100000) (pos 300000) ∷ node 1000 3000 (pos 400000) (pos 800000) ∷ node 500 0 (pos 1000000) (pos 0) ∷ []

-- a contract of two rows, of capacities 35,000 and 60,000, along these nodes
abbrev pub two_rows : List ContractRow
two_rows =
    record { party = 0; capacity = 35000; receipt = 0; delivery = 1; next = Some 1 } ∷ record { party = 0; capacity = 60000; receipt = 1; delivery = 2; next = None } ∷ []

-- demand 50,000, supply 40,000, and so much balanced day-ahead
abbrev pub schedule : ℕ → Schedule
schedule d = record { demand = 50000; supply = 40000; day_ahead = d }

pub record Figures : Type 0 where
  -- nothing deviated: half the sum of the prices, a half going away from zero
  pub even : weighted_price (node 0 0 (pos 100000) (pos 300000)) ≡ pos 200000
  pub half_up : weighted_price (node 0 0 (pos 100000) (pos 100001)) ≡ pos 100001
  pub half_down : weighted_price (node 0 0 (neg_ℤ (pos 100000)) (neg_ℤ (pos 100001))) ≡ neg_ℤ (pos 100001)
  -- (1,000 × 400,000 + 3,000 × 800,000) ÷ 4,000
  pub weighed : weighted_price (node 1000 3000 (pos 400000) (pos 800000)) ≡ pos 700000
  -- 30,000 × price ÷ 1,000,000
  pub low_leg : leg (pos 30000) (pos 200000) ≡ pos 6000
  pub middle_leg : leg (pos 30000) (pos 700000) ≡ pos 21000
  pub high_leg : leg (pos 30000) (pos 1000000) ≡ pos 30000
  -- half a cent, either way
  pub half_leg : leg (pos 1) (pos 500000) ≡ pos 1
  pub owed_half_leg : leg (neg_ℤ (pos 1)) (pos 500000) ≡ neg_ℤ (pos 1)
  -- the least of 50,000, 40,000, 35,000 and 60,000, less 5,000; less 60,000 it is negative
  pub quantity : balanced two_rows (0 ∷ 1 ∷ []) (schedule 5000) ≡ pos 30000
  pub owed_quantity : balanced two_rows (0 ∷ 1 ∷ []) (schedule 60000) ≡ neg_ℤ (pos 25000)
  -- 6,000 less 21,000, and 21,000 less 30,000
  pub both_rows : credits two_rows three_nodes (pos 30000) (0 ∷ 1 ∷ []) ≡ neg_ℤ (pos 15000) ∷ neg_ℤ (pos 9000) ∷ []
  -- the legs at -25,000, and the credits
  pub owed_low_leg : leg (neg_ℤ (pos 25000)) (pos 200000) ≡ neg_ℤ (pos 5000)
  pub owed_middle_leg : leg (neg_ℤ (pos 25000)) (pos 700000) ≡ neg_ℤ (pos 17500)
  pub owed_high_leg : leg (neg_ℤ (pos 25000)) (pos 1000000) ≡ neg_ℤ (pos 25000)
  pub owed_rows : credits two_rows three_nodes (neg_ℤ (pos 25000)) (0 ∷ 1 ∷ []) ≡ pos 12500 ∷ pos 7500 ∷ []
  -- the limits themselves are accepted, and nothing beyond one
  pub at_limits : within_bounds (node 1000000 1000000 (pos 100000000) (neg_ℤ (pos 100000000))) ≡ true
  pub over_deviation : within_bounds (node 0 1000001 (pos 0) (pos 0)) ≡ false
  pub over_price : within_bounds (node 0 0 (pos 100000001) (pos 0)) ≡ false
  pub under_price : within_bounds (node 0 0 (pos 0) (neg_ℤ (pos 100000001))) ≡ false
