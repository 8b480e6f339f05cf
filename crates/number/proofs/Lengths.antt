-- How long texts are, for those who show that a reply fits its buffer.
use Rattle.std.proofs.Common.{◌≡◌, ℕ, ◌+◌, ◌-◌, ◌*◌, ◌/◌, ◌%◌, ◌^◌, ◌<◌, ◌≤◌, Bool, ◌&&◌, eqb, ltb, [], ◌∷◌, length, ℤ, pos, nat_abs, ap, div-add-mod', arith}
use native.Mathlib.Nat.{pow-le-pow_right}
use lib.Signed.{lt_z}
use Rattle.std.proofs.lemmas.Fmt.{length-decimal-le}
use Rattle.std.proofs.lemmas.List.{length-append}
use Rattle.std.proofs.lemmas.Bool.{cond_both}
use Rattle.number.specs.Texts.{whole_text, last_digits, point, fixed, when, shortened, setting_text, unit, rounded, position_text}
use Rattle.number.proofs.Spelled.{whole_is, length_last}
use Rattle.number.proofs.Again.{shortened_worth, split_worth}

-- a whole number below ten to the w has at most w digits
pub whole_short : (w n : ℕ) → 0 < w → n < 10 ^ w → n < 2 ^ 64 → length (whole_text n) ≤ w
whole_short w n some low fits = omega (arith, ap length (whole_is n fits), length-decimal-le w n some low fits)

point_short : (k f : ℕ) → length (point k f) ≤ k + 1
point_short k f = cond_both (eqb k 0) [] (46 ∷ last_digits k f) (λ l. length l ≤ k + 1) (λ t. omega arith) (λ t. omega (arith, length_last k f))

when_short : (b : Bool) (c : ℕ) → length (when b c) ≤ 1
when_short b c = cond_both b (c ∷ []) [] (λ l. length l ≤ 1) (λ t. omega arith) (λ t. omega arith)

-- units of the k-th place that are worth less than 10,000 units: four digits, a point and k digits
fixed_short : (k n : ℕ) → k ≤ 6 → n * 10 ^ (6 - k) < 10000000000 → length (fixed k n) ≤ k + 5
unfolding fixed
fixed_short k n six low =
    let worth = split_worth k n six in
    let whole = whole_short 4 (n / 10 ^ k) (omega arith) (omega arith) (omega arith) in
    simp length-append (omega (arith, point_short k (n % 10 ^ k)))

-- a setting of 32 bits has at most 12 bytes
pub setting_short : (z : ℤ) → nat_abs z < 4294967296 → length (setting_text z) ≤ 12
unfolding setting_text
setting_short z low =
    let same = shortened_worth 6 (nat_abs z) (omega arith) in
    let text = fixed_short (shortened 6 (nat_abs z)).0 (shortened 6 (nat_abs z)).1 same.0 (omega (arith, same.1)) in
    simp length-append (omega (arith, when_short (lt_z z (pos 0)) 45))

-- and so has a position
pub position_short : (k : ℕ) (z : ℤ) → k ≤ 6 → nat_abs z < 4294967296 → length (position_text k z) ≤ 12
unfolding position_text
position_short k z six low =
    let n = nat_abs z in
    let units : rounded k n * unit k + (n + unit k / 2) % unit k ≡ n + unit k / 2 = div-add-mod' (n + unit k / 2) (unit k) in
    let less : 6 - k ≤ 6 = omega arith in
    let small : unit k ≤ 10 ^ 6 = pow-le-pow_right {n = 10} (omega arith) less in
    let text = fixed_short k (rounded k n) six (omega (arith, units, small)) in
    simp length-append (omega (arith, when_short (lt_z z (pos 0) && ltb 0 (rounded k n)) 45))
