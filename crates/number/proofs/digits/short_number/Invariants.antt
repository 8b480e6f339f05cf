use Rattle.std.proofs.Common.{◌≡◌, ◌^◌, ◌<◌, drop}
use Rattle.number.specs.Digits.{number_on}
use Rattle.number.proofs.digits.short_number.Given as goal

abbrev pub invariant-loop-c : goal.invariant-loop-c
invariant-loop-c l = (number_on l.n (drop l.c-index l.digits) ≡ number_on 0 l.digits) × (l.n < 10 ^ l.c-index)
