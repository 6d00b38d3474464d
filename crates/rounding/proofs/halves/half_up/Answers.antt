use Rattle.std.proofs.Common.{◌<◌, ◌*◌, ◌%◌, ⊎_elim, arith}
use Rattle.std.proofs.lemmas.Bool.{cases_lt}
use Rattle.std.proofs.lemmas.Bool.Decides.{nat_tests}
use Rattle.std.specs.Int.NonZero.{non_zero_u64_get}
use Rattle.rounding.proofs.HalfUp.{half_up_low, half_up_high}
use Rattle.rounding.proofs.halves.half_up.Goals as goal

pub returns : goal.returns
returns c =
    let m = c.args.m in
    let d = non_zero_u64_get c.args.d in
    let some : 0 < d = c.args.d.ok in
    ⊎_elim
    (λ low. let e = half_up_low m d some low in grind (arith, nat_tests))
    (λ high. let e = half_up_high m d some high in grind (arith, nat_tests))
    (cases_lt (2 * (m % d)) d)
