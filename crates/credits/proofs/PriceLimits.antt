-- The weighted price of a record within bounds is within the limit of a price. Assumes nothing.
use Rattle.std.proofs.Common.{◌≡◌, ◌*◌, ◌≤◌, true, ltb, ◌+ℤ◌, nat_abs, arith}
use Rattle.std.proofs.lemmas.Int.{ints}
use Rattle.std.proofs.lemmas.Bool.{cond_both, ltb-false}
use Rattle.credits.specs.declared.nodes.NodeRecord.{NodeRecord}
use Rattle.credits.specs.Prices.{total_deviation, weighed, weighted_sum, weighted_mean, plain_mean, weighted_price, within_bounds}
use Rattle.credits.proofs.Products.{product_le, nearest_within}

-- the bounds of a record, one by one
pub record Bounds (r : NodeRecord) : Type 0 where
  pub fifteen_minute_deviation : r.fifteen_minute_deviation ≤ 1000000
  pub dispatch_deviation : r.dispatch_deviation ≤ 1000000
  pub fifteen_minute_price : nat_abs r.fifteen_minute_price ≤ 100000000
  pub dispatch_price : nat_abs r.dispatch_price ≤ 100000000

pub bounds : (r : NodeRecord) → within_bounds r ≡ true → Bounds r
bounds r h = record {
  fifteen_minute_deviation = grind arith;
  dispatch_deviation = grind arith;
  fifteen_minute_price = grind arith;
  dispatch_price = grind arith;
}

weighted_sum_le : (r : NodeRecord) → Bounds r → nat_abs (weighted_sum r) ≤ 100000000 * total_deviation r
unfolding weighed
weighted_sum_le r b =
    omega (arith, ints, product_le r.fifteen_minute_price r.fifteen_minute_deviation 100000000 b.fifteen_minute_price, product_le r.dispatch_price r.dispatch_deviation 100000000 b.dispatch_price)

pub weighted_price_le : (r : NodeRecord) → within_bounds r ≡ true → nat_abs (weighted_price r) ≤ 100000000
unfolding weighted_price
weighted_price_le r h =
    let b = bounds r h in
    cond_both (ltb (total_deviation r) 1) (plain_mean r) (weighted_mean r) (λ p. nat_abs p ≤ 100000000)
    (λ none. nearest_within (r.fifteen_minute_price +ℤ r.dispatch_price) 2 100000000 (omega arith) (omega (arith, ints)))
    (λ some. nearest_within (weighted_sum r) (total_deviation r) 100000000 (omega (arith, ltb-false (total_deviation r) 1 some)) (weighted_sum_le r b))
