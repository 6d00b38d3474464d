-- The figures, by computation. Assumes nothing.
use Rattle.std.proofs.Common.{refl}
use Rattle.rounding.specs.Nearest.{half_up}
use Rattle.credits.specs.Prices.{weighed, weighted_price}
use Rattle.credits.specs.Legs.{leg}
use Rattle.credits.specs.Figures.{Figures}

pub figures : Figures
unfolding weighed weighted_price leg half_up
figures = record {
  even = refl;
  half_up = refl;
  half_down = refl;
  weighed = refl;
  low_leg = refl;
  middle_leg = refl;
  high_leg = refl;
  half_leg = refl;
  owed_half_leg = refl;
  quantity = refl;
  owed_quantity = refl;
  both_rows = refl;
  owed_low_leg = refl;
  owed_middle_leg = refl;
  owed_high_leg = refl;
  owed_rows = refl;
  at_limits = refl;
  over_deviation = refl;
  over_price = refl;
  under_price = refl;
}
