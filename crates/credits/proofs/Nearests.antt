-- Prices and legs keep the law of the nearest. Assumes nothing.
use Rattle.std.proofs.Common.{◌≡◌, ◌<◌, ℤ, ◌+ℤ◌, ◌*ℤ◌, arith}
use Rattle.std.proofs.lemmas.Bool.{lt-ltb, le-ltb}
use Rattle.rounding.specs.Nearest.{Nearest}
use Rattle.rounding.proofs.Law.{nearest_law}
use Rattle.credits.specs.declared.nodes.NodeRecord.{NodeRecord}
use Rattle.credits.specs.Prices.{total_deviation, weighted_sum, weighted_price}
use Rattle.credits.specs.Legs.{leg}
use Rattle.credits.specs.Limits.{NearestAmounts}

weighted_nearest : (r : NodeRecord) → 0 < total_deviation r → Nearest (weighted_sum r) (total_deviation r) (weighted_price r)
unfolding weighted_price
weighted_nearest r some = rw (le-ltb (total_deviation r) 1 (omega arith)) (nearest_law (weighted_sum r) (total_deviation r) some)

plain_nearest : (r : NodeRecord) → total_deviation r ≡ 0 → Nearest (r.fifteen_minute_price +ℤ r.dispatch_price) 2 (weighted_price r)
unfolding weighted_price
plain_nearest r none = rw (lt-ltb (total_deviation r) 1 (omega arith)) (nearest_law (r.fifteen_minute_price +ℤ r.dispatch_price) 2 (omega arith))

leg-nearest : (b p : ℤ) → Nearest (b *ℤ p) 1000000 (leg b p)
unfolding leg
leg-nearest b p = nearest_law (b *ℤ p) 1000000 (omega arith)

pub nearest_amounts : NearestAmounts
nearest_amounts = record { weighted = weighted_nearest; plain = plain_nearest; legs = leg-nearest }
