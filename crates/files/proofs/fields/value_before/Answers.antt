use Rattle.files.specs.Splitting.{field_front, no_end, no_field}
use Rattle.files.proofs.fields.value_before.Goals as goal

pub returns-in_err-field : goal.returns-in_err-field
returns-in_err-field g c =
    rw c.from_residual.ensures (no_end g.F.FieldText.text g.F.FieldText.fine c.args.end c.args.bytes.now c.in_err-field.ensures)

pub returns-in_err-x : goal.returns-in_err-x
returns-in_err-x g c =
    let end = c.args.end in
    rw c.from_residual-in_err-x.ensures
    (no_field g.F.FieldText.text g.F.FieldText.fine end c.args.bytes.now (λ x. g.met.F.FieldText.clean end x c.requires) c.in_ok-field.field.now c.in_ok-field.rest.now c.in_ok-field.ensures c.in_err-x.ensures)

pub returns : goal.returns
returns g c =
    field_front g.F.FieldText.text g.F.FieldText.fine c.args.end c.args.bytes.now c.in_ok-field.field.now c.in_ok-field.rest.now c.in_ok-x.x c.in_ok-field.ensures c.in_ok-x.ensures
