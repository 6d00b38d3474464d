use Rattle.std.proofs.Common.{◌*ℤ◌, arith, w64, SFits, rules}
use Rattle.std.proofs.lemmas.Int.{ints, to_z-of_z}
use Rattle.credits.proofs.LegLimits.{value_le}
use Rattle.credits.proofs.quantities.BalancedQuantity.value.Goals as goal

pub returns : goal.returns
returns c =
    let quantity = c.args.self.milli_mwh in
    let price = c.args.price.millicents in
    let quantity_fits : SFits w64 quantity = search rules in
    let price_fits : SFits w64 price = search rules in
    let small = value_le quantity price c.args.self.bound c.args.price.bound in
    let fits : SFits w64 (quantity *ℤ price) = omega (arith, ints) in
    grind (arith, to_z-of_z)
