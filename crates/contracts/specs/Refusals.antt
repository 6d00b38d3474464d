-- Number, layer and place of each fault of a contract table.
use Rattle.contracts.specs.declared.faults.TableFault.{TableFault}
use Rattle.contracts.specs.declared.faults.TableFault.TheVariants.{TooManyRows, Capacity, NextNoRow, NodesApart, Endless, NoHead}
use Rattle.refusals.specs.declared.Refusal.{Refusal}
use Rattle.refusals.specs.declared.Layer.TheVariants.{Table}

abbrev pub table_refusal : TableFault → Refusal
table_refusal TooManyRows = record { number = 1; layer = Table; place = 0 }
table_refusal (Capacity row) = record { number = 2; layer = Table; place = row }
table_refusal (NextNoRow row) = record { number = 3; layer = Table; place = row }
table_refusal (NodesApart row) = record { number = 4; layer = Table; place = row }
table_refusal (Endless row) = record { number = 5; layer = Table; place = row }
table_refusal NoHead = record { number = 13; layer = Table; place = 0 }
