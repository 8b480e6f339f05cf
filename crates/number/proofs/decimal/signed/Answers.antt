use Rattle.std.proofs.Common.{◌≡◌, pos, arith, w64, to_z, rules}
use Rattle.std.proofs.lemmas.List.{take_rest}
use Rattle.std.proofs.lemmas.Bool.Decides.{nat_tests}
use Rattle.std.proofs.lemmas.Int.{ints}
use Rattle.number.specs.Decimals.{signed_of}
use Rattle.number.proofs.decimal.signed.Goals as goal

pub returns-in_err-magnitude-in-45 : goal.returns-in_err-magnitude-in-45
unfolding signed_of
returns-in_err-magnitude-in-45 c = let e = take_rest c.args.text.now 1 in grind (arith, nat_tests)

pub returns-in_err-magnitude-in-43 : goal.returns-in_err-magnitude-in-43
unfolding signed_of
returns-in_err-magnitude-in-43 c = let e = take_rest c.args.text.now 1 in grind (arith, nat_tests)

pub returns-in_err-magnitude-in_default : goal.returns-in_err-magnitude-in_default
unfolding signed_of
returns-in_err-magnitude-in_default c = search rules

pub returns-in_ok-magnitude-in-45 : goal.returns-in_ok-magnitude-in-45
unfolding signed_of
returns-in_ok-magnitude-in-45 c =
    let e = take_rest c.args.text.now 1 in
    let m = c.in_ok-magnitude-in-45.ensures.value in
    grind (arith, nat_tests)

pub returns-in_ok-magnitude-in-43 : goal.returns-in_ok-magnitude-in-43
unfolding signed_of
returns-in_ok-magnitude-in-43 c =
    let e = take_rest c.args.text.now 1 in
    let n = c.in_ok-magnitude-in-43.field-0 in
    let z : to_z w64 n ≡ pos n = omega (arith, ints, c.in_ok-magnitude-in-43.ensures.bound) in
    let m = c.in_ok-magnitude-in-43.ensures.value in
    grind (arith, nat_tests)

pub returns-in_ok-magnitude-in_default : goal.returns-in_ok-magnitude-in_default
unfolding signed_of
returns-in_ok-magnitude-in_default c = search rules
