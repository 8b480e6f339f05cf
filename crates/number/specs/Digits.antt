-- Runs of digits.
use Rattle.std.specs.Prelude.{ℕ, ◌+◌, ◌-◌, ◌*◌, Bool, List, [], ◌∷◌, length, ◌==◌}
use Rattle.std.specs.Char.{is_ascii_digit}
use Rattle.std.specs.List.{prefix_len}

-- a byte from `0` to `9`
abbrev pub digit : ℕ → Bool
digit b = is_ascii_digit b

-- how many digits a text begins with
abbrev pub digits_before : List ℕ → ℕ
digits_before xs = prefix_len digit xs

-- a text of digits and nothing else
abbrev pub all_digits : List ℕ → Bool
all_digits xs = digits_before xs == length xs

-- the number that digits write behind the number n
abbrev pub number_on : ℕ → List ℕ → ℕ
number_on n [] = n
number_on n (c ∷ cs) = number_on (n * 10 + (c - 48)) cs

-- the number that digits write, however many they are
abbrev pub number : List ℕ → ℕ
number ds = number_on 0 ds
