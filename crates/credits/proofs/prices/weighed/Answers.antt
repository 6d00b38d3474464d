use Rattle.std.proofs.Common.{arith, w64, SFits, pos, ◌*ℤ◌}
use Rattle.std.proofs.lemmas.Int.{ints, to_z-of_z}
use Rattle.credits.specs.Prices.{weighed}
use Rattle.credits.proofs.Products.{product_le}
use Rattle.credits.proofs.prices.weighed.Goals as goal

pub returns : goal.returns
unfolding weighed
returns c =
    let small = product_le c.args.price c.args.deviation 100000000 c.requires in
    let fits : SFits w64 (c.args.price *ℤ pos c.args.deviation) = omega (arith, ints) in
    record { value = grind (arith, to_z-of_z); small = grind (arith, to_z-of_z) }
