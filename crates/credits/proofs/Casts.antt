-- A number that fits its bits comes back from them.
use Rattle.std.proofs.lemmas.Int.{to_z-of_z}

pub ruleset casts = (to_z-of_z)
