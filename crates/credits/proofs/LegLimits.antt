-- How large a leg is at a price within bounds, and a credit. Assumes nothing.
use Rattle.std.proofs.Common.{◌*◌, ◌≤◌, ℤ, ◌*ℤ◌, nat_abs, arith}
use Rattle.std.proofs.lemmas.Nat.{mul-le}
use Rattle.std.proofs.lemmas.Int.{unsigned_abs-mul}
use Rattle.credits.specs.Legs.{leg}
use Rattle.credits.proofs.Products.{nearest_within}

pub value_le : (b p : ℤ) → nat_abs b ≤ 1000000 → nat_abs p ≤ 100000000 → nat_abs (b *ℤ p) ≤ 100000000 * 1000000
value_le b p small price = omega (arith, unsigned_abs-mul b p, mul-le (nat_abs b) (nat_abs p) 1000000 100000000 small price)

pub leg_le : (b p : ℤ) → nat_abs b ≤ 1000000 → nat_abs p ≤ 100000000 → nat_abs (leg b p) ≤ 100000000
unfolding leg
leg_le b p small price = nearest_within (b *ℤ p) 1000000 100000000 (omega arith) (value_le b p small price)
