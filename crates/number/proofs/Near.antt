-- A rounded position is the nearest multiple of its unit.
use Rattle.std.proofs.Common.{◌≡◌, ℕ, zero, suc, ◌+◌, ◌-◌, ◌*◌, ◌/◌, ◌%◌, ◌<◌, ◌≤◌, Bool, false, cond, ◌&&◌, ltb, ◌++◌, ℤ, pos, negsuc, ◌*ℤ◌, neg_ℤ, nat_abs, Some, sym, refl, ap, ◌∙◌, subst, ⊎_elim, mod-lt, add-mul, mul-le-mul, div-add-mod', zero-mul, arith, MatchOption}
use native.Mathlib.Nat.{one-le-pow}
use lib.Signed.{lt_z}
use Rattle.std.proofs.lemmas.Int.{ints}
use Rattle.std.proofs.lemmas.Bool.{cond-true, cond-false, cases_order, cases_Bool, le-ltb, ltb-false, and_left}
use Rattle.number.specs.Decimals.{read_decimal}
use Rattle.number.specs.Texts.{unit, rounded, when, fixed, position_text}
use Rattle.number.specs.Laws.{distance, Nearest}
use Rattle.number.proofs.Again.{read_signed}

more_units : (j q u : ℕ) → j < q → j * u + u ≤ q * u
more_units j q u h =
    let e : (j + 1) * u ≡ j * u + 1 * u = add-mul j 1 u in
    let up : j + 1 ≤ q = omega arith in
    let same : u ≤ u = omega arith in
    let le : (j + 1) * u ≤ q * u = mul-le-mul up same in
    omega arith

-- a is q times u, and n is at most half of u away
module _ (u n q a : ℕ) (some : 0 < u) (is : a ≡ q * u) (low : a ≤ n + u / 2) (high : n + u / 2 < a + u) where
  near_pos : (j : ℤ) → (distance (pos n) (pos a) ≤ distance (pos n) (j *ℤ pos u)) × (distance (pos n) (pos a) ≡ distance (pos n) (j *ℤ pos u) → nat_abs (j *ℤ pos u) ≤ a)
  near_pos (pos j) =
      ⊎_elim
      (λ same. let e : j * u ≡ a = ap (λ k. k * u) same ∙ sym is in (omega (arith, ints), λ _. omega arith))
      (⊎_elim
      (λ less. let m = more_units j q u less in (omega (arith, ints), λ _. omega arith))
      (λ more. let m = more_units q j u more in (omega (arith, ints), λ d. absurd (omega (arith, ints)))))
      (cases_order j q)
  near_pos (negsuc j) =
      let m = more_units 0 (suc j) u (omega arith) in
      (omega (arith, ints), λ d. absurd (omega (arith, ints)))

  nearest_pos : Nearest u (pos n) (pos a)
  nearest_pos = record { multiple = (pos q, ap pos is); nearest = λ j. (near_pos j).0; farther = λ j. (near_pos j).1 }

-- the other side of zero
apart_mirrored : (x y : ℤ) → distance (neg_ℤ x) y ≡ distance x (neg_ℤ y)
apart_mirrored x y = omega (arith, ints)

size_mirrored : (x : ℤ) → nat_abs (neg_ℤ x) ≡ nat_abs x
size_mirrored x = omega (arith, ints)

times_mirrored : (j : ℤ) (u : ℕ) → neg_ℤ j *ℤ pos u ≡ neg_ℤ (j *ℤ pos u)
times_mirrored (pos zero) u = let none = zero-mul u in omega (arith, ints)
times_mirrored (pos (suc j)) u = refl
times_mirrored (negsuc j) u = let x : ℤ = pos (suc j * u) in let e : x ≡ neg_ℤ (neg_ℤ x) = omega (arith, ints) in e

twice_mirrored : (x : ℤ) → neg_ℤ (neg_ℤ x) ≡ x
twice_mirrored x = omega (arith, ints)

mirrored : (u : ℕ) (x m : ℤ) → Nearest u x m → Nearest u (neg_ℤ x) (neg_ℤ m)
mirrored u x m h =
    let here : distance (neg_ℤ x) (neg_ℤ m) ≡ distance x m = apart_mirrored x (neg_ℤ m) ∙ ap (distance x) (twice_mirrored m) in
    let there : (j : ℤ) → distance (neg_ℤ x) (j *ℤ pos u) ≡ distance x (neg_ℤ j *ℤ pos u) = (λ j. apart_mirrored x (j *ℤ pos u) ∙ ap (distance x) (sym (times_mirrored j u))) in
    let size : (j : ℤ) → nat_abs (neg_ℤ j *ℤ pos u) ≡ nat_abs (j *ℤ pos u) = (λ j. ap nat_abs (times_mirrored j u) ∙ size_mirrored (j *ℤ pos u)) in
    record {
      multiple = (neg_ℤ h.multiple.0, ap neg_ℤ h.multiple.1 ∙ sym (times_mirrored h.multiple.0 u));
      nearest = λ j. omega (arith, h.nearest (neg_ℤ j), here, there j);
      farther = λ j e. omega (arith, h.farther (neg_ℤ j) (sym here ∙ e ∙ there j), size j, size_mirrored m);
    }

-- what is read of a position that is written
module _ (k n : ℕ) (six : k ≤ 6) (short : n + unit k / 2 < 1000000000000000) where
  some : 0 < unit k
  some = one-le-pow (6 - k) 10 (omega arith)

  units : rounded k n * unit k + (n + unit k / 2) % unit k ≡ n + unit k / 2
  units = div-add-mod' (n + unit k / 2) (unit k)

  rest : (n + unit k / 2) % unit k < unit k
  rest = mod-lt (n + unit k / 2) some

  near : Nearest (unit k) (pos n) (pos (rounded k n * unit k))
  near = nearest_pos (unit k) n (rounded k n) (rounded k n * unit k) some refl (omega (arith, units)) (omega (arith, units, rest))

  read_minus : (minus : Bool) → read_decimal (when minus 45 ++ fixed k (rounded k n)) ≡ Some (cond minus (neg_ℤ (pos (rounded k n * unit k))) (pos (rounded k n * unit k)))
  read_minus minus = read_signed minus k (rounded k n) (rounded k n * unit k) six refl (omega (arith, units))

zero_from : (q : ℕ) → q ≤ 0 → q ≡ 0
zero_from q h = omega arith

-- zero is its own mirror
minus_none : (q u : ℕ) → cond (ltb 0 q) (neg_ℤ (pos (q * u))) (pos (q * u)) ≡ neg_ℤ (pos (q * u))
minus_none q u =
    ⊎_elim
    (λ t. cond-true _ _ _ t)
    (λ t. let none : q * u ≡ 0 = ap (λ k. k * u) (zero_from q (ltb-false 0 q t)) ∙ zero-mul u in cond-false _ _ _ t ∙ (let e : pos (q * u) ≡ neg_ℤ (pos (q * u)) = omega (arith, ints) in e))
    (cases_Bool (ltb 0 q))

pub position_again : (k : ℕ) (z : ℤ) → k ≤ 6 → nat_abs z + unit k / 2 < 1000000000000000 → MatchOption (read_decimal (position_text k z)) ⊥ (λ m. Nearest (unit k) z m)
unfolding position_text
position_again k (pos n) six short =
    let no : (lt_z (pos n) (pos 0) && ltb 0 (rounded k n)) ≡ false = and_left _ _ (le-ltb n 0 (omega arith)) in
    subst (λ o. MatchOption o ⊥ (λ m. Nearest (unit k) (pos n) m)) (sym (ap (λ b. read_decimal (when b 45 ++ fixed k (rounded k n))) no ∙ read_minus k n six short false)) (near k n six short)
position_again k (negsuc n) six short =
    subst (λ o. MatchOption o ⊥ (λ m. Nearest (unit k) (negsuc n) m)) (sym (read_minus k (suc n) six short (ltb 0 (rounded k (suc n))) ∙ ap Some (minus_none (rounded k (suc n)) (unit k)))) (mirrored (unit k) (pos (suc n)) (pos (rounded k (suc n) * unit k)) (near k (suc n) six short))
