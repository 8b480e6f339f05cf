-- Numbers that are cut off at 1000.
use Rattle.std.proofs.Common.{◌≡◌, ℕ, ◌+◌, ◌-◌, ◌*◌, List, [], ◌∷◌, arith}
use Rattle.number.specs.Digits.{number_on}
use Rattle.command.specs.Commands.{capped}

step : (m n d : ℕ) → capped m ≡ capped n → capped (m * 10 + d) ≡ capped (n * 10 + d)
step m n d e = omega arith

pub capped_on : (m n : ℕ) (xs : List ℕ) → capped m ≡ capped n → capped (number_on m xs) ≡ capped (number_on n xs)
capped_on m n [] e = e
capped_on m n (x ∷ xs) e = capped_on (m * 10 + (x - 48)) (n * 10 + (x - 48)) xs (step m n (x - 48) e)
