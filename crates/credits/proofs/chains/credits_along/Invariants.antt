use Rattle.std.proofs.Common.{◌≡◌}
use Rattle.credits.proofs.Crediting.{Crediting}
use Rattle.credits.proofs.chains.credits_along.Given as goal

abbrev pub invariant-loop-row : goal.invariant-loop-row
invariant-loop-row l =
    record {
      same_rows : l.row-iterator.rows.now ≡ l.walk.rows.now;
      walked : Crediting l.walk.rows.now l.nodes l.quantity.milli_mwh l.walk.place l.row-iterator.place l.credits;
    }
