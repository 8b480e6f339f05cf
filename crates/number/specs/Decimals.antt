-- What a decimal is worth, in millionths.
use Rattle.std.specs.Prelude.{ℕ, ◌+◌, ◌-◌, ◌*◌, ◌^◌, Bool, cond, ◌&&◌, List, [], length, take, drop, ℤ, pos, neg_ℤ, Some, None, Option, ◌==◌, nat_le, nat_lt, slice_index}
use Rattle.std.specs.Option.{option_map}
use Rattle.number.specs.Digits.{digits_before, all_digits, number}

-- what follows the digits in front of the point: nothing, or a point and digits
abbrev pub fraction_of : List ℕ → Option (List ℕ)
fraction_of xs = cond (length xs == 0) (Some []) (cond (slice_index xs 0 == 46 && all_digits (drop 1 xs)) (Some (drop 1 xs)) None)

-- up to nine digits in front of the point and up to six behind it, one at least in all
abbrev pub fits_decimal : List ℕ → List ℕ → Bool
fits_decimal ws fs = nat_le (length ws) 9 && (nat_le (length fs) 6 && nat_lt 0 (length ws + length fs))

-- what such digits are worth, in millionths
abbrev pub worth : List ℕ → List ℕ → Option ℕ
worth ws fs = cond (fits_decimal ws fs) (Some (number ws * 1000000 + number fs * 10 ^ (6 - length fs))) None

-- what is made of a value, if there is one
abbrev pub and_then : {A B : Type 0} → Option A → (A → Option B) → Option B
and_then None f = None
and_then (Some x) f = f x

-- a decimal without sign
unfoldable pub magnitude_of : List ℕ → Option ℕ
magnitude_of xs = and_then (fraction_of (drop (digits_before xs) xs)) (worth (take (digits_before xs) xs))

-- a decimal with a minus, a plus, or no sign in front
unfoldable pub signed_of : List ℕ → Option ℤ
signed_of xs =
    cond (slice_index xs 0 == 45) (option_map (λ n. neg_ℤ (pos n)) (magnitude_of (drop 1 xs)))
    (cond (slice_index xs 0 == 43) (option_map pos (magnitude_of (drop 1 xs))) (option_map pos (magnitude_of xs)))

-- a decimal; more than 17 characters are none
abbrev pub read_decimal : List ℕ → Option ℤ
read_decimal xs = cond (nat_lt 17 (length xs)) None (signed_of xs)
