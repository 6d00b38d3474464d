-- Which bound an amount and weights break, the amount judged first.
use Rattle.std.specs.Prelude.{◌≡◌, ℕ, ◌<◌, ◌≤◌, List, ℤ, sum, unsigned_abs}
use Rattle.sharing.specs.declared.bounds.OutOfBounds.{OutOfBounds}
use Rattle.sharing.specs.declared.bounds.OutOfBounds.TheVariants.{Amount, NoWeight, TotalWeight}

abbrev pub Beyond : ℤ → List ℕ → OutOfBounds → Type 0
Beyond f ws Amount = 1000000000 < unsigned_abs f
Beyond f ws NoWeight = (unsigned_abs f ≤ 1000000000) × (sum ws ≡ 0)
Beyond f ws TotalWeight = (unsigned_abs f ≤ 1000000000) × (4000000000 < sum ws)
