-- What is written is read again.
use Rattle.std.proofs.Common.{◌≡◌, ℕ, zero, suc, ◌+◌, ◌-◌, ◌*◌, ◌/◌, ◌%◌, ◌^◌, ◌<◌, ◌≤◌, Bool, true, false, cond, eqb, ltb, List, [], ◌∷◌, ◌++◌, length, get_or, take, drop, ℤ, pos, negsuc, neg_ℤ, nat_abs, Some, None, sym, refl, ap, ◌∙◌, subst, mod-lt, mul_assoc, mul_comm, add-mul, pow-suc, div-add-mod', arith, pow-add}
use native.Mathlib.Nat.{one-le-pow}
use lib.Signed.{lt_z}
use Rattle.std.specs.List.{prefix_len}
use Rattle.std.specs.Option.{option_map}
use Rattle.std.proofs.lemmas.Fmt.{decimal_by_steps, length-decimal-le}
use Rattle.std.proofs.lemmas.List.{length-append, take_at, drop_at}
use Rattle.std.proofs.lemmas.Bool.{cond-false, cond_both, ne_eqb, eqb-true, le-ltb}
use Rattle.std.proofs.lemmas.Bool.Decides.{nat_tests}
use Rattle.number.specs.Digits.{digit, number_on, number}
use Rattle.number.specs.Decimals.{fraction_of, worth, and_then, magnitude_of, signed_of, read_decimal}
use Rattle.number.specs.Texts.{whole_text, last_digits, point, fixed, when, shortened, setting_text}
use Rattle.number.proofs.Runs.{worth_some, leading_at}
use Rattle.number.proofs.Spelled.{whole_is, length_last}

-- reading one more digit
number_push : (n : ℕ) (xs : List ℕ) (c : ℕ) → number_on n (xs ++ (c ∷ [])) ≡ number_on n xs * 10 + (c - 48)
number_push n [] c = refl
number_push n (x ∷ xs) c = number_push (n * 10 + (x - 48)) xs c

number_last : (k n : ℕ) → n < 10 ^ k → number (last_digits k n) ≡ n
number_last zero n h = omega arith
number_last (suc k) n h =
    let p = pow-suc 10 k in
    let more = number_last k (n / 10) (omega arith) in
    let push = number_push 0 (last_digits k (n / 10)) (48 + n % 10) in
    omega arith

-- a run of digits before something else
leading_onto : (p : ℕ → Bool) (xs ys : List ℕ) → prefix_len p xs ≡ length xs → prefix_len p (xs ++ ys) ≡ length xs + prefix_len p ys
leading_onto p [] ys e = omega arith
leading_onto p (x ∷ xs) ys e =
    let more = leading_onto p xs ys in
    grind arith

leading_push : (xs : List ℕ) (d : ℕ) → d < 10 → prefix_len digit xs ≡ length xs → prefix_len digit (xs ++ ((48 + d) ∷ [])) ≡ length (xs ++ ((48 + d) ∷ []))
leading_push xs d h e =
    let onto = leading_onto digit xs ((48 + d) ∷ []) e in
    let last : prefix_len digit ((48 + d) ∷ []) ≡ 1 = grind (arith, nat_tests) in
    onto ∙ simp length-append (omega arith)

leading_last : (k n : ℕ) → prefix_len digit (last_digits k n) ≡ length (last_digits k n)
leading_last zero n = refl
leading_last (suc k) n = leading_push (last_digits k (n / 10)) (n % 10) (omega arith) (leading_last k (n / 10))

-- a text is the digits of a number
abbrev DigitsOf : ℕ → List ℕ → Type 0
DigitsOf n ds = (prefix_len digit ds ≡ length ds) × (number ds ≡ n) × (0 < length ds)

digits_one : (n : ℕ) → n < 10 → DigitsOf n ((48 + n) ∷ [])
digits_one n h = (leading_push [] n h refl, omega arith, omega arith)

digits_more : (n : ℕ) (ds : List ℕ) → 10 ≤ n → DigitsOf (n / 10) ds → DigitsOf n (ds ++ ((48 + n % 10) ∷ []))
digits_more n ds h of =
    let push = number_push 0 ds (48 + n % 10) in (
      leading_push ds (n % 10) (omega arith) of.0,
      omega arith,
      simp length-append (omega arith),
    )

whole_digits : (n : ℕ) → n < 1000000000 → DigitsOf n (whole_text n) × (length (whole_text n) ≤ 9)
whole_digits n h = (
  subst (DigitsOf n) (sym (whole_is n (omega arith))) (decimal_by_steps DigitsOf digits_one digits_more n (omega arith)),
  omega (arith, ap length (whole_is n (omega arith)), length-decimal-le 9 n (omega arith) (omega arith) (omega arith)),
)

fraction_is : (fs : List ℕ) → prefix_len digit fs ≡ length fs → fraction_of (46 ∷ fs) ≡ Some fs
fraction_is fs e = grind (arith, nat_tests)

worth_is : (ws : List ℕ) (m : ℕ) (fs : List ℕ) (f : ℕ) → number ws ≡ m → 0 < length ws → length ws ≤ 9 → length fs ≤ 6 → number fs ≡ f → worth ws fs ≡ Some (m * 1000000 + f * 10 ^ (6 - length fs))
worth_is ws m fs f wis some nine six is = sym (worth_some ws fs _ nine six (omega arith) (λ i. sym wis i * 1000000 + sym is i * 10 ^ (6 - length fs)))

fraction_then : (ws : List ℕ) (m k f : ℕ) → number ws ≡ m → 0 < length ws → length ws ≤ 9 → k ≤ 6 → f < 10 ^ k → and_then (fraction_of (point k f)) (worth ws) ≡ Some (m * 1000000 + f * 10 ^ (6 - k))
fraction_then ws m zero f wis some nine six low = worth_is ws m [] f wis some nine (omega arith) (omega arith)
fraction_then ws m (suc k) f wis some nine six low =
    let fs : List ℕ = last_digits (suc k) f in
    let long : length fs ≡ suc k = length_last (suc k) f in
    let is : point (suc k) f ≡ 46 ∷ fs = cond-false _ _ _ (ne_eqb (suc k) 0 (λ z. omega arith)) in
    (λ i. and_then (fraction_of (is i)) (worth ws))
    ∙ ap (λ o. and_then o (worth ws)) (fraction_is fs (leading_last (suc k) f))
    ∙ worth_is ws m fs f wis some nine (omega arith) (number_last (suc k) f low)
    ∙ ap (λ j. Some (m * 1000000 + f * 10 ^ (6 - j))) long

-- digits, and then a point with digits or nothing
module _ (ws : List ℕ) (m k f : ℕ) (of : DigitsOf m ws) (nine : length ws ≤ 9) (six : k ≤ 6) (low : f < 10 ^ k) where
  text : List ℕ
  text = ws ++ point k f

  run : prefix_len digit text ≡ length ws
  unfolding text
  run =
      let onto = leading_onto digit ws (point k f) of.0 in
      let stop : prefix_len digit (point k f) ≡ 0 = grind (arith, nat_tests) in
      omega arith

  front : take (prefix_len digit text) text ≡ ws
  unfolding text
  front = ap (λ n. take n text) run ∙ take_at ws (point k f) (length ws) refl

  back : drop (prefix_len digit text) text ≡ point k f
  unfolding text
  back = ap (λ n. drop n text) run ∙ drop_at ws (point k f) (length ws) refl

  read_parts : magnitude_of text ≡ Some (m * 1000000 + f * 10 ^ (6 - k))
  unfolding magnitude_of
  read_parts = (λ i. and_then (fraction_of (back i)) (worth (front i))) ∙ fraction_then ws m k f of.1 of.2 nine six low

-- to leave zeros out keeps the worth
pub shortened_worth : (k n : ℕ) → k ≤ 6 → ((shortened k n).0 ≤ k) × ((shortened k n).1 * 10 ^ (6 - (shortened k n).0) ≡ n * 10 ^ (6 - k))
unfolding shortened
shortened_worth zero n h = (omega arith, refl)
shortened_worth (suc k) n h =
    let more = shortened_worth k (n / 10) (omega arith) in
    let e : 6 - k ≡ suc (6 - suc k) = omega arith in
    let up : 10 ^ (6 - k) ≡ 10 ^ (6 - suc k) * 10 = ap (λ j. 10 ^ j) e ∙ pow-suc 10 (6 - suc k) in
    cond_both (eqb (n % 10) 0) (shortened k (n / 10)) (suc k, n)
    (λ p. (p.0 ≤ suc k) × (p.1 * 10 ^ (6 - p.0) ≡ n * 10 ^ (6 - suc k)))
    (λ t. let whole : n / 10 * 10 ≡ n = omega (arith, eqb-true (n % 10) 0 t) in (
      omega arith,
      more.1 ∙ ap (λ x. n / 10 * x) (up ∙ mul_comm _ 10) ∙ sym (mul_assoc (n / 10) 10 (10 ^ (6 - suc k))) ∙ ap (λ x. x * 10 ^ (6 - suc k)) whole,
    ))
    (λ t. (omega arith, refl))

-- a number of units is worth its whole part and its fraction
pub split_worth : (k n : ℕ) → k ≤ 6 → n / 10 ^ k * 1000000 + n % 10 ^ k * 10 ^ (6 - k) ≡ n * 10 ^ (6 - k)
split_worth k n h =
    let e : k + (6 - k) ≡ 6 = omega arith in
    let six : 10 ^ k * 10 ^ (6 - k) ≡ 1000000 = sym (pow-add 10 k (6 - k)) ∙ ap (λ j. 10 ^ j) e in
    ap (λ x. n / 10 ^ k * x + n % 10 ^ k * 10 ^ (6 - k)) (sym six)
    ∙ ap (λ x. x + n % 10 ^ k * 10 ^ (6 - k)) (sym (mul_assoc (n / 10 ^ k) (10 ^ k) (10 ^ (6 - k))))
    ∙ sym (add-mul (n / 10 ^ k * 10 ^ k) (n % 10 ^ k) (10 ^ (6 - k)))
    ∙ ap (λ x. x * 10 ^ (6 - k)) (div-add-mod' n (10 ^ k))

-- the text of a number of units: it is read as its worth, it is short, and it begins with a digit
pub read_fixed : (k n a : ℕ) → k ≤ 6 → n * 10 ^ (6 - k) ≡ a → a < 1000000000000000 → (magnitude_of (fixed k n) ≡ Some a) × (length (fixed k n) ≤ 16) × (digit (get_or (fixed k n) 0 0) ≡ true)
unfolding fixed text
read_fixed k n a six is low =
    let all : n / 10 ^ k * 1000000 + n % 10 ^ k * 10 ^ (6 - k) ≡ a = split_worth k n six ∙ is in
    let q = n / 10 ^ k in
    let of = whole_digits q (omega arith) in
    let rest : n % 10 ^ k < 10 ^ k = mod-lt n (one-le-pow k 10 (omega arith)) in
    let tail : length (point k (n % 10 ^ k)) ≤ 7 = cond_both (eqb k 0) [] (46 ∷ last_digits k (n % 10 ^ k)) (λ l. length l ≤ 7) (λ t. omega arith) (λ t. omega (arith, length_last k (n % 10 ^ k))) in (
      subst (λ x. magnitude_of (fixed k n) ≡ Some x) all (read_parts (whole_text q) q k (n % 10 ^ k) of.0 of.1 six rest),
      simp length-append (omega arith),
      leading_at digit (fixed k n) 0 (omega (arith, run (whole_text q) q k (n % 10 ^ k) of.0 of.1 six rest, of.0.2)),
    )

plain_signed : (xs : List ℕ) (a : ℕ) → digit (get_or xs 0 0) ≡ true → magnitude_of xs ≡ Some a → signed_of xs ≡ Some (pos a)
unfolding signed_of
plain_signed xs a d e = grind (arith, nat_tests)

-- a text with a minus or without, read as its worth
pub read_signed : (minus : Bool) (k n a : ℕ) → k ≤ 6 → n * 10 ^ (6 - k) ≡ a → a < 1000000000000000 → read_decimal (when minus 45 ++ fixed k n) ≡ Some (cond minus (neg_ℤ (pos a)) (pos a))
unfolding signed_of
read_signed minus k n a six is low =
    let back = read_fixed k n a six is low in
    elim minus as (λ b. cond (ltb 17 (length (when b 45 ++ fixed k n))) None (signed_of (when b 45 ++ fixed k n)) ≡ Some (cond b (neg_ℤ (pos a)) (pos a))) [
      | true ↦ cond-false _ _ _ (le-ltb 17 (length (45 ∷ fixed k n)) (omega arith)) ∙ ap (option_map (λ m. neg_ℤ (pos m))) back.0
      | false ↦ cond-false _ _ _ (le-ltb 17 (length (fixed k n)) (omega arith)) ∙ plain_signed (fixed k n) a back.2 back.0
    ]

signed_back : (z : ℤ) → cond (lt_z z (pos 0)) (neg_ℤ (pos (nat_abs z))) (pos (nat_abs z)) ≡ z
signed_back (pos n) = cond-false _ _ _ (le-ltb n 0 (omega arith))
signed_back (negsuc n) = refl

pub setting_again : (z : ℤ) → nat_abs z ≤ 999999999999999 → read_decimal (setting_text z) ≡ Some z
unfolding setting_text
setting_again z h =
    let same = shortened_worth 6 (nat_abs z) (omega arith) in
    read_signed (lt_z z (pos 0)) _ _ (nat_abs z) same.0 (same.1 ∙ omega arith) (omega arith) ∙ ap Some (signed_back z)
