-- The text of settings, positions and lists.
use Rattle.std.specs.Prelude.{ℕ, zero, suc, ◌+◌, ◌-◌, ◌/◌, ◌%◌, ◌^◌, Bool, cond, ◌&&◌, List, [], ◌∷◌, ◌++◌, ℤ, pos, ◌==◌, int_lt, nat_lt, unsigned_abs}

-- the digits of n, the highest first, where there are at most k
abbrev pub digits_of : ℕ → ℕ → List ℕ
digits_of zero n = []
digits_of (suc k) n = cond (nat_lt n 10) ((48 + n) ∷ []) (digits_of k (n / 10) ++ ((48 + n % 10) ∷ []))

-- a whole number of 64 bits, which has at most 20 digits
unfoldable pub whole_text : ℕ → List ℕ
whole_text n = digits_of 20 n

-- the last k digits of n
abbrev pub last_digits : ℕ → ℕ → List ℕ
last_digits zero n = []
last_digits (suc k) n = last_digits k (n / 10) ++ ((48 + n % 10) ∷ [])

-- a point and k digits; nothing where k is 0
abbrev pub point : ℕ → ℕ → List ℕ
point k f = cond (k == 0) [] (46 ∷ last_digits k f)

-- n units of the k-th decimal place
unfoldable pub fixed : ℕ → ℕ → List ℕ
fixed k n = whole_text (n / 10 ^ k) ++ point k (n % 10 ^ k)

-- a byte that is written, or left out
abbrev pub when : Bool → ℕ → List ℕ
when wanted b = cond wanted (b ∷ []) []

-- n units of the k-th decimal place, without the zeros at the end: decimal places, and units of the last
unfoldable pub shortened : ℕ → ℕ → ℕ × ℕ
shortened zero n = (0, n)
shortened (suc k) n = cond (n % 10 == 0) (shortened k (n / 10)) (suc k, n)

-- a setting of so many millionths, with no needless zeros
unfoldable pub setting_text : ℤ → List ℕ
setting_text z = when (int_lt z (pos 0)) 45 ++ fixed (shortened 6 (unsigned_abs z)).0 (shortened 6 (unsigned_abs z)).1

-- the unit of the k-th decimal place, in millionths
abbrev pub unit : ℕ → ℕ
unit k = 10 ^ (6 - k)

-- millionths in units of the k-th decimal place, rounded, halves up
abbrev pub rounded : ℕ → ℕ → ℕ
rounded k n = (n + unit k / 2) / unit k

-- a position of so many millionths, rounded to k decimal places, halves away from zero; zero has no minus
unfoldable pub position_text : ℕ → ℤ → List ℕ
position_text k z = when (int_lt z (pos 0) && nat_lt 0 (rounded k (unsigned_abs z))) 45 ++ fixed k (rounded k (unsigned_abs z))

-- each text with a comma in front
abbrev pub after_comma : List (List ℕ) → List ℕ
after_comma [] = []
after_comma (x ∷ xs) = 44 ∷ (x ++ after_comma xs)

-- texts parted by commas
unfoldable pub list_text : List (List ℕ) → List ℕ
list_text [] = []
list_text (x ∷ xs) = x ++ after_comma xs

-- the end of a reply: CR and LF
abbrev pub line_end : List ℕ
line_end = 13 ∷ 10 ∷ []
