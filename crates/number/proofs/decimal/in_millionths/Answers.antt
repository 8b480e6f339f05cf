use Rattle.std.proofs.Common.{sym, arith}
use Rattle.number.proofs.Runs.{short, small, worth_some, allowed_parts}
use Rattle.number.proofs.decimal.in_millionths.Goals as goal

pub short_number-requires : goal.short_number-requires
short_number-requires c =
    let so = allowed_parts c.args.whole.now c.args.fraction.now (sym c.if-not-allowed.ensures) in
    record { short = so.0; digits = c.requires.whole }

pub overflow_add-result : goal.overflow_add-result
overflow_add-result c =
    let so = allowed_parts c.args.whole.now c.args.fraction.now (sym c.if-not-allowed.ensures) in
    let w = short _ _ 9 c.short_number.ensures.bound so.0 in
    let f = short _ _ 6 c.short_number-2.ensures.bound so.1 in
    let p = small _ _ f c.power_of_ten.ensures.bound in
    omega arith

pub returns : goal.returns
returns c =
    let so = allowed_parts c.args.whole.now c.args.fraction.now (sym c.if-not-allowed.ensures) in
    let w = short _ _ 9 c.short_number.ensures.bound so.0 in
    let f = short _ _ 6 c.short_number-2.ensures.bound so.1 in
    let p = small _ _ f c.power_of_ten.ensures.bound in
    record { value = worth_some c.args.whole.now c.args.fraction.now _ so.0 so.1 so.2 (cc); bound = omega arith }
