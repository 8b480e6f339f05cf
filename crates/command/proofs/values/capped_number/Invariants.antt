use Rattle.std.proofs.Common.{◌≡◌, ◌≤◌, drop}
use Rattle.number.specs.Digits.{number_on, number}
use Rattle.command.specs.Commands.{capped}
use Rattle.command.proofs.values.capped_number.Given as goal

abbrev pub invariant-loop-c : goal.invariant-loop-c
invariant-loop-c l = (capped (number_on l.n (drop l.c-index l.digits)) ≡ capped (number l.digits)) × (l.n ≤ 1000)
