use Rattle.std.proofs.Common.{inl, inr}
use Rattle.files.specs.FieldByField.{no_node}
use Rattle.files.proofs.node_lines.NodeRecordLineText.read_line.Goals as goal

pub returns-in_err-fifteen_minute_deviation : goal.returns-in_err-fifteen_minute_deviation
returns-in_err-fifteen_minute_deviation c =
    rw c.from_residual.ensures (no_node c.args.bytes.now (inl c.in_err-fifteen_minute_deviation.ensures))

pub returns-in_err-dispatch_deviation : goal.returns-in_err-dispatch_deviation
returns-in_err-dispatch_deviation c =
    rw c.from_residual-in_err-dispatch_deviation.ensures (no_node c.args.bytes.now (inr (_, _, c.in_ok-fifteen_minute_deviation.ensures, inl c.in_err-dispatch_deviation.ensures)))

pub returns-in_err-fifteen_minute_price : goal.returns-in_err-fifteen_minute_price
returns-in_err-fifteen_minute_price c =
    rw c.from_residual-in_err-fifteen_minute_price.ensures (no_node c.args.bytes.now (inr (_, _, c.in_ok-fifteen_minute_deviation.ensures, inr (_, _, c.in_ok-dispatch_deviation.ensures, inl c.in_err-fifteen_minute_price.ensures))))

pub returns-in_err-dispatch_price : goal.returns-in_err-dispatch_price
returns-in_err-dispatch_price c =
    rw c.from_residual-in_err-dispatch_price.ensures (no_node c.args.bytes.now (inr (_, _, c.in_ok-fifteen_minute_deviation.ensures, inr (_, _, c.in_ok-dispatch_deviation.ensures, inr (_, _, c.in_ok-fifteen_minute_price.ensures, inl c.in_err-dispatch_price.ensures)))))
