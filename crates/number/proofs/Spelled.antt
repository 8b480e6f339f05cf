-- The texts by the steps that write them.
use Rattle.std.proofs.Common.{◌≡◌, ℕ, zero, suc, ◌+◌, ◌-◌, ◌/◌, ◌%◌, ◌^◌, ◌<◌, ◌≤◌, Bool, true, false, ◌&&◌, eqb, ltb, [], ◌∷◌, ◌++◌, length, ℤ, pos, nat_abs, decimal, sym, refl, ap, ◌∙◌, arith, rules}
use lib.Signed.{lt_z}
use Rattle.std.proofs.lemmas.Fmt.{AppendsLastDigit, decimal_digit, decimal_step, length-decimal-le, decimal_from_appends}
use Rattle.std.proofs.lemmas.List.{append_assoc, append-nil, length-append}
use Rattle.std.proofs.lemmas.Bool.{cond-true, cond-false, eq-eqb, ne_eqb, and_parts, ltb-true, lt-ltb}
use Rattle.number.specs.Texts.{digits_of, whole_text, last_digits, fixed, when, shortened, setting_text, rounded, position_text}

spells : AppendsLastDigit digits_of
spells = search rules

-- the library's word for the same digits
pub whole_is : (n : ℕ) → n < 2 ^ 64 → whole_text n ≡ decimal n
unfolding whole_text
whole_is n h = decimal_from_appends digits_of spells 20 n h (length-decimal-le 20 n (omega arith) (omega arith) h)

pub whole_digit : (n : ℕ) → n < 10 → whole_text n ≡ (48 + n % 10) ∷ []
whole_digit n h = let e : 48 + n ≡ 48 + n % 10 = omega arith in whole_is n (omega arith) ∙ decimal_digit n h ∙ ap (λ d. d ∷ []) e

pub whole_step : (n : ℕ) → 10 ≤ n → n < 2 ^ 64 → whole_text n ≡ whole_text (n / 10) ++ ((48 + n % 10) ∷ [])
whole_step n h fits = whole_is n fits ∙ decimal_step n h fits ∙ ap (λ l. l ++ ((48 + n % 10) ∷ [])) (sym (whole_is (n / 10) (omega arith)))

pub last_more : (k n : ℕ) → 0 < k → last_digits k n ≡ last_digits (k - 1) (n / 10) ++ ((48 + n % 10) ∷ [])
last_more zero n h = absurd (omega arith)
last_more (suc k) n h = let e : k ≡ suc k - 1 = omega arith in ap (λ j. last_digits j (n / 10) ++ ((48 + n % 10) ∷ [])) e

pub length_last : (k n : ℕ) → length (last_digits k n) ≡ k
length_last zero n = refl
length_last (suc k) n = let more = length_last k (n / 10) in simp length-append (omega arith)

-- u is ten to the power k
pub fixed_none : (k n u : ℕ) → k ≡ 0 → u ≡ 10 ^ k → whole_text (n / u) ≡ fixed k n
unfolding fixed
fixed_none k n u z e = ap (λ v. whole_text (n / v)) e ∙ sym (append-nil _) ∙ ap (λ l. whole_text (n / 10 ^ k) ++ l) (sym (cond-true _ _ _ (eq-eqb k 0 z)))

pub fixed_some : (k n u : ℕ) → 0 < k → u ≡ 10 ^ k → (whole_text (n / u) ++ (46 ∷ [])) ++ last_digits k (n % u) ≡ fixed k n
unfolding fixed
fixed_some k n u h e =
    append_assoc (whole_text (n / u)) (46 ∷ []) (last_digits k (n % u))
    ∙ ap (λ v. whole_text (n / v) ++ (46 ∷ last_digits k (n % v))) e
    ∙ ap (λ l. whole_text (n / 10 ^ k) ++ l) (sym (cond-false _ _ _ (ne_eqb k 0 (λ z. omega arith))))

-- a zero at the end is left out, and nothing else
pub shortened_more : (k n : ℕ) → (ltb 0 k && eqb (n % 10) 0) ≡ true → (shortened (k - 1) (n / 10) ≡ shortened k n) × (0 < k)
unfolding shortened
shortened_more zero n e = absurd (omega (arith, ltb-true 0 0 (and_parts (ltb 0 0) (eqb (n % 10) 0) e).0))
shortened_more (suc k) n e =
    let back : suc k - 1 ≡ k = omega arith in
    (ap (λ j. shortened j (n / 10)) back ∙ sym (cond-true _ _ _ (and_parts (ltb 0 (suc k)) (eqb (n % 10) 0) e).1), omega arith)

pub shortened_ends : (k n : ℕ) → (ltb 0 k && eqb (n % 10) 0) ≡ false → shortened k n ≡ (k, n)
unfolding shortened
shortened_ends zero n e = refl
shortened_ends (suc k) n e = cond-false _ _ _ (ap (λ b. b && eqb (n % 10) 0) (sym (lt-ltb 0 (suc k) (omega arith))) ∙ e)

pub setting_is : (z : ℤ) (b : Bool) (m k n : ℕ) → b ≡ lt_z z (pos 0) → m ≡ nat_abs z → (k, n) ≡ shortened 6 m → when b 45 ++ fixed k n ≡ setting_text z
unfolding setting_text
setting_is z b m k n be me pe =
    let p : (k, n) ≡ shortened 6 (nat_abs z) = pe ∙ ap (shortened 6) me in
    (λ i. when (be i) 45 ++ fixed (p i).0 (p i).1)

pub position_is : (z : ℤ) (b : Bool) (m k d n : ℕ) → k ≡ d → m ≡ nat_abs z → n ≡ rounded k m → b ≡ (lt_z z (pos 0) && ltb 0 n) → when b 45 ++ fixed k n ≡ position_text d z
unfolding position_text
position_is z b m k d n ke me ne be =
    let near : n ≡ rounded d (nat_abs z) = ne ∙ (λ i. rounded (ke i) (me i)) in
    ap (λ c. when c 45 ++ fixed k n) be ∙ (λ i. when (lt_z z (pos 0) && ltb 0 (near i)) 45 ++ fixed (ke i) (near i))
