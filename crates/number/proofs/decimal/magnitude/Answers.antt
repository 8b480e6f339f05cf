use Rattle.std.proofs.Common.{rules}
use Rattle.number.specs.Decimals.{magnitude_of}
use Rattle.number.proofs.Runs.{front_digits}
use Rattle.number.proofs.decimal.magnitude.Goals as goal

pub in_millionths-requires : goal.in_millionths-requires
in_millionths-requires c = record { whole = search (rules, front_digits); fraction = c.in_ok-digits.ensures.digits }

pub returns-in_err-digits : goal.returns-in_err-digits
unfolding magnitude_of
returns-in_err-digits c = search rules

pub returns : goal.returns
unfolding magnitude_of
returns c = search rules
