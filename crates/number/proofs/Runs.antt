-- Runs of digits.
use Rattle.std.proofs.Common.{◌≡◌, ℕ, zero, suc, ◌+◌, ◌-◌, ◌*◌, ◌^◌, ◌<◌, ◌≤◌, Bool, true, false, cond, List, [], ◌∷◌, length, get_or, take, drop, Some, sym, refl, ap, ◌∙◌, mul-le-mul, pow-suc, add-one, one-add, arith}
use Rattle.std.specs.List.{prefix_len}
use Rattle.std.proofs.lemmas.Bool.Decides.{nat_tests}
use Rattle.number.specs.Digits.{digit, all_digits, number_on}
use Rattle.std.proofs.lemmas.Bool.{eq-eqb}
use Rattle.number.specs.Decimals.{fits_decimal, worth}
use Rattle.std.proofs.lemmas.List.{at_drop_more, at_drop_all}
use native.Mathlib.Nat.{one-le-pow, pow-le-pow_right}

-- each element of the front that passes, passes
pub leading_at : (p : ℕ → Bool) (xs : List ℕ) (i : ℕ) → i < prefix_len p xs → p (get_or xs i 0) ≡ true
leading_at p [] i h = absurd (omega arith)
leading_at p (x ∷ xs) zero h = grind arith
leading_at p (x ∷ xs) (suc i) h =
    let more = leading_at p xs i in
    grind arith

pub digit_at : (xs : List ℕ) (i : ℕ) → all_digits xs ≡ true → i < length xs → (48 ≤ get_or xs i 0) × (get_or xs i 0 ≤ 57)
digit_at xs i e h =
    let at = leading_at digit xs i in
    grind (arith, nat_tests)

-- one more digit
pub read_more : (xs : List ℕ) (n i x : ℕ) → all_digits xs ≡ true → i < length xs → x ≡ get_or xs i 0 - 48 → number_on n (drop i xs) ≡ number_on 0 xs → n < 10 ^ i → (number_on (n * 10 + x) (drop (i + 1) xs) ≡ number_on 0 xs) × (n * 10 + x < 10 ^ (i + 1))
read_more xs n i x e h is so low =
    let at = digit_at xs i e h in
    let pow : 10 ^ (i + 1) ≡ 10 ^ i * 10 = ap (λ k. 10 ^ k) (add-one i) ∙ pow-suc 10 i in (
      ap (λ y. number_on (n * 10 + y) (drop (i + 1) xs)) is ∙ sym (at_drop_more (number_on n) xs i 0 h) ∙ so,
      omega arith,
    )

pub read_all : (xs : List ℕ) (n i : ℕ) → length xs ≤ i → number_on n (drop i xs) ≡ number_on 0 xs → n ≡ number_on 0 xs
read_all xs n i h so = sym (at_drop_all (number_on n) xs i h) ∙ so

pub short : (r k m : ℕ) → r < 10 ^ k → k ≤ m → r < 10 ^ m
short r k m h le = omega (arith, pow-le-pow_right {n = 10} (omega arith) le)

pub small : (a b : ℕ) → a < 1000000 → b ≤ 1000000 → a * b ≤ 1000000000000
small a b h le = let x : a ≤ 1000000 = omega arith in mul-le-mul x le

pub allowed_parts : (ws fs : List ℕ) → fits_decimal ws fs ≡ true → (length ws ≤ 9) × (length fs ≤ 6) × (0 < length ws + length fs)
allowed_parts ws fs e = grind (arith, nat_tests)

pub worth_some : (ws fs : List ℕ) (r : ℕ) → length ws ≤ 9 → length fs ≤ 6 → 0 < length ws + length fs → r ≡ number_on 0 ws * 1000000 + number_on 0 fs * 10 ^ (6 - length fs) → Some r ≡ worth ws fs
worth_some ws fs r a b s e = grind (arith, nat_tests)

-- the digits in front are digits
leading_take : (p : ℕ → Bool) (xs : List ℕ) → prefix_len p (take (prefix_len p xs) xs) ≡ length (take (prefix_len p xs) xs)
leading_take p [] = refl
leading_take p (x ∷ xs) =
    let more = leading_take p xs in
    elim (p x) as (λ b. p x ≡ b → prefix_len p (take (cond b (1 + prefix_len p xs) 0) (x ∷ xs)) ≡ length (take (cond b (1 + prefix_len p xs) 0) (x ∷ xs))) [
      | true ↦ λ e. rw (one-add, e, one-add, more)
      | false ↦ λ e. refl
    ] refl

pub front_digits : (xs ys : List ℕ) → ys ≡ take (prefix_len digit xs) xs → all_digits ys ≡ true
front_digits xs ys e = ap all_digits e ∙ eq-eqb _ _ (leading_take digit xs)

-- powers of ten up to the sixth
pub ten_positive : (k : ℕ) → 0 < 10 ^ k
ten_positive k = omega (arith, one-le-pow k 10 (omega arith))

pub ten_bound : (k : ℕ) → k ≤ 6 → 10 ^ k ≤ 1000000
ten_bound k h = pow-le-pow_right {n = 10} (omega arith) h
