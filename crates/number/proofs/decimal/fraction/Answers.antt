use Rattle.std.proofs.Common.{◌≡◌, length, arith}
use Rattle.std.proofs.lemmas.List.{take_rest, nil_from_length}
use Rattle.std.proofs.lemmas.Bool.Decides.{nat_tests}
use Rattle.number.proofs.decimal.fraction.Goals as goal

pub returns-in-46 : goal.returns-in-46
returns-in-46 c = let e = take_rest c.args.after.now 1 in grind (arith, nat_tests)

pub returns-in_default : goal.returns-in_default
returns-in_default c = let e = take_rest c.args.after.now 1 in grind (arith, nat_tests)

pub returns-in-empty : goal.returns-in-empty
returns-in-empty c =
    let none : length c.args.after.now ≡ 0 = grind (arith, nat_tests) in
    let e = nil_from_length c.args.after.now none in
    grind (arith, nat_tests)
