-- Whole numbers and their sizes.
use Rattle.std.proofs.Common.{◌≡◌, ℕ, zero, suc, ◌<◌, ◌≤◌, true, false, ℤ, pos, negsuc, ◌-ℤ◌, neg_ℤ, nat_abs, ◌≤ℤ◌, ◌<ℤ◌, sym, refl, ◌∙◌, arith}
use Rattle.std.proofs.lemmas.Int.{ints, by_lt_z}
use Rattle.std.proofs.lemmas.Bool.{true≢false}
use Rattle.drive.specs.Model.{Fair, same}

-- a size, with its sign
pub size_up : (d : ℤ) → pos 0 ≤ℤ d → pos (nat_abs d) ≡ d
size_up (pos n) h = refl
size_up (negsuc n) h = absurd h.le

pub size_down : (d : ℤ) → d ≤ℤ pos 0 → pos (nat_abs d) ≡ pos 0 -ℤ d
size_down (pos zero) h = refl
size_down (pos (suc n)) h = absurd (omega (arith, ints))
size_down (negsuc n) h = omega (arith, ints)

-- a size, as bounds
pub inside_is : (z : ℤ) (n : ℕ) → nat_abs z ≤ n → (neg_ℤ (pos n) ≤ℤ z) × (z ≤ℤ pos n)
inside_is (pos m) n h = (omega (arith, ints), omega (arith, ints))
inside_is (negsuc m) n h = (omega (arith, ints), omega (arith, ints))

pub is_inside : (z : ℤ) (n : ℕ) → neg_ℤ (pos n) ≤ℤ z → z ≤ℤ pos n → nat_abs z ≤ n
is_inside (pos m) n l h = omega (arith, ints)
is_inside (negsuc m) n l h = omega (arith, ints)

-- ---- a fair new position

-- it stays within the reach
pub fair_within : (p r t : ℤ) (n : ℕ) → Fair p r t → nat_abs p ≤ n → nat_abs t ≤ n → nat_abs r ≤ n
fair_within p r t n f hp ht =
    let bp = inside_is p n hp in
    let bt = inside_is t n ht in
    by_lt_z p t
    (λ l. let k = f.up (omega (arith, ints)) in is_inside r n (omega (arith, ints)) (omega (arith, ints)))
    (λ g. let k = f.down g in is_inside r n (omega (arith, ints)) (omega (arith, ints)))

-- it leaves an axis that rests where it is
pub fair_rests : (p r t : ℤ) → Fair p r t → t ≡ p → t ≡ r
fair_rests p r t f e = let k = f.up (omega (arith, ints)) in omega (arith, ints, k)

-- it brings an axis that moves nearer
pub fair_nearer : (p r t : ℤ) → Fair p r t → same p t ≡ false → nat_abs (t -ℤ r) < nat_abs (t -ℤ p)
fair_nearer p r t f moves =
    by_lt_z p t
    (λ l.
    let k = f.up (omega (arith, ints)) in
    let n = f.nearer_up l in
    let a = size_up (t -ℤ p) (omega (arith, ints)) in
    let b = size_up (t -ℤ r) (omega (arith, ints)) in
    omega (arith, ints))
    (λ g.
    let l : t <ℤ p = by_lt_z t p (λ l. l) (λ h. let e : same p t ≡ true = grind (arith, ints) in absurd (true≢false (sym e ∙ moves))) in
    let k = f.down g in
    let n = f.nearer_down l in
    let a = size_down (t -ℤ p) (omega (arith, ints)) in
    let b = size_down (t -ℤ r) (omega (arith, ints)) in
    omega (arith, ints))
