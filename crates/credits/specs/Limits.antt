-- The law of the roundings, and how large a price, a leg and a credit can be, either way.
use Rattle.std.specs.Prelude.{◌≡◌, ◌<◌, ◌≤◌, true, List, ℤ, ◌+ℤ◌, ◌*ℤ◌, None, unsigned_abs}
use Rattle.rounding.specs.Nearest.{Nearest}
use Rattle.contracts.specs.declared.rows.ContractRow.{ContractRow}
use Rattle.credits.specs.declared.nodes.NodeRecord.{NodeRecord}
use Rattle.credits.specs.Prices.{total_deviation, weighted_sum, weighted_price, within_bounds}
use Rattle.credits.specs.Faults.{row_fault}
use Rattle.credits.specs.Legs.{leg, row_credit}

-- A record within bounds weighs to a price within bounds; a leg at such a price is at most 1,000,000 dollars, and the
-- credit of a row without a fault at most twice that.
pub record Limits : Type 0 where
  pub price : (r : NodeRecord) → within_bounds r ≡ true → unsigned_abs (weighted_price r) ≤ 100000000
  pub leg_cents : (b p : ℤ) → unsigned_abs b ≤ 1000000 → unsigned_abs p ≤ 100000000 → unsigned_abs (leg b p) ≤ 100000000
  pub credit : (nodes : List NodeRecord) (b : ℤ) (row : ContractRow) → unsigned_abs b ≤ 1000000 → row_fault nodes row ≡ None → unsigned_abs (row_credit nodes b row) ≤ 200000000

-- Prices and legs are the whole numbers nearest to their quotients, by the law of the nearest: no whole number is nearer,
-- and any other that is as near is closer to zero.
pub record NearestAmounts : Type 0 where
  pub weighted : (r : NodeRecord) → 0 < total_deviation r → Nearest (weighted_sum r) (total_deviation r) (weighted_price r)
  pub plain : (r : NodeRecord) → total_deviation r ≡ 0 → Nearest (r.fifteen_minute_price +ℤ r.dispatch_price) 2 (weighted_price r)
  pub legs : (b p : ℤ) → Nearest (b *ℤ p) 1000000 (leg b p)
