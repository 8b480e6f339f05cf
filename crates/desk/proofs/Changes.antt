-- Rows by their number, and a change of one row.
use Rattle.std.proofs.Common.{◌≡◌, ℕ, zero, suc, ◌+◌, ◌-◌, ◌/◌, ◌≤◌, Bool, true, false, leb, List, [], ◌∷◌, length, get_or, set, Some, None, Option, sym, refl, ap, ◌∙◌, arith}
use native.Mathlib.Numerals.{unary_clauses}
use Rattle.std.specs.List.{list_all, slice_get}
use Rattle.std.proofs.lemmas.Bool.{and_parts, and_from, leb-true, le-leb, cond-true}
use Rattle.std.proofs.lemmas.List.{length-set}
use Rattle.std.proofs.lemmas.Bool.Decides.{nat_tests}
use Rattle.desk.specs.declared.axis_settings.AxisSettings.{AxisSettings}
use Rattle.desk.specs.Tables.{there, row, row_or, changed, alter}
use Rattle.desk.specs.Axes.{short}
use Rattle.desk.specs.Desks.{DeskModel, on_axis}

-- a row by its place
pub row_before : {X : Type 0} (xs : List X) (n m : ℕ) → n ≡ m + 1 → row n xs ≡ slice_get xs m
row_before xs zero m e = absurd (omega arith)
row_before xs (suc i) m e = ap (λ k. slice_get xs k) (omega arith)

pub row_or_some : {X : Type 0} (d : X) (n : ℕ) (xs : List X) (x : X) → Some x ≡ row n xs → row_or d n xs ≡ x
row_or_some d zero xs x e = cc
row_or_some d (suc i) [] x e = cc
row_or_some d (suc zero) (y ∷ ys) x e = cc
row_or_some d (suc (suc i)) (y ∷ ys) x e = row_or_some d (suc i) ys x e

pub row_or_none : {X : Type 0} (d : X) (n : ℕ) (xs : List X) → None ≡ row n xs → row_or d n xs ≡ d
row_or_none d zero xs e = refl
row_or_none d (suc i) [] e = refl
row_or_none d (suc zero) (y ∷ ys) e = cc
row_or_none d (suc (suc i)) (y ∷ ys) e = row_or_none d (suc i) ys e

pub there_some : {X : Type 0} (n : ℕ) (xs : List X) (x : X) → Some x ≡ row n xs → there n xs ≡ true
there_some zero xs x e = cc
there_some (suc i) [] x e = cc
there_some (suc zero) (y ∷ ys) x e = grind (arith, nat_tests)
there_some (suc (suc i)) (y ∷ ys) x e = let h = there_some (suc i) ys x e in grind (arith, nat_tests)

pub there_none : {X : Type 0} (n : ℕ) (xs : List X) → None ≡ row n xs → there n xs ≡ false
there_none zero xs e = refl
there_none (suc i) [] e = grind (arith, nat_tests)
there_none (suc zero) (y ∷ ys) e = cc
there_none (suc (suc i)) (y ∷ ys) e = let h = there_none (suc i) ys e in grind (arith, nat_tests)

-- a test that all pass
module _ {X : Type 0} (p : X → Bool) where
  pub all_pass_set : (xs : List X) (i : ℕ) (y : X) → list_all p xs ≡ true → p y ≡ true → list_all p (set xs i y) ≡ true
  all_pass_set [] i y h k = h
  all_pass_set (x ∷ xs) zero y h k = and_from _ _ k (and_parts (p x) (list_all p xs) h).1
  all_pass_set (x ∷ xs) (suc i) y h k =
      and_from _ _ (and_parts (p x) (list_all p xs) h).0 (all_pass_set xs i y (and_parts (p x) (list_all p xs) h).1 k)

-- no row shows more than 6 digits
pub short_get : (xs : List AxisSettings) (i : ℕ) (r : Option AxisSettings) → r ≡ slice_get xs i → short xs ≡ true → elim r as (λ o. Type 0) [ Some a ↦ a.digits ≤ 6 | None ↦ Unit {0} ]
short_get [] i (Some a) e h = absurd cc
short_get [] i None e h = tt
short_get (x ∷ xs) zero (Some a) e h =
    let d : leb a.digits 6 ≡ true = let s : Some a ≡ Some x = e in let l = (and_parts (leb x.digits 6) (short xs) h).0 in cc in leb-true _ _ d
short_get (x ∷ xs) zero None e h = tt
short_get (x ∷ xs) (suc i) r e h = short_get xs i r e (and_parts (leb x.digits 6) (short xs) h).1

pub short_set : (xs : List AxisSettings) (i : ℕ) (y : AxisSettings) → short xs ≡ true → y.digits ≤ 6 → short (set xs i y) ≡ true
short_set xs i y h k = all_pass_set (λ a. leb a.digits 6) xs i y h (le-leb _ _ k)

module _ {X : Type 0} (f : X → X) (d : X) where
  pub changed_set : (xs : List X) (i : ℕ) → changed f i xs ≡ set xs i (f (get_or xs i d))
  changed_set [] i = refl
  changed_set (x ∷ xs) zero = refl
  changed_set (x ∷ xs) (suc i) = ap (λ zs. x ∷ zs) (changed_set xs i)

  pub alter_set : (xs : List X) (n : ℕ) → 1 ≤ n → alter f n xs ≡ set xs (n - 1) (f (row_or d n xs))
  alter_set xs zero low = absurd (omega arith)
  alter_set xs (suc i) low = simp unary_clauses (changed_set xs i)

pub changed_past : {X : Type 0} (f : X → X) (xs : List X) (i : ℕ) → length xs ≤ i → changed f i xs ≡ xs
changed_past f [] i h = refl
changed_past f (x ∷ xs) zero h = absurd (omega arith)
changed_past f (x ∷ xs) (suc i) h = ap (λ zs. x ∷ zs) (changed_past f xs i (omega arith))

pub alter_missing : {X : Type 0} (f : X → X) (xs : List X) (k : ℕ) → there k xs ≡ false → alter f k xs ≡ xs
alter_missing f xs zero e = refl
alter_missing f xs (suc k) e = changed_past f xs k (grind (arith, nat_tests))

-- a row is changed as f changes it
pub row_changed : {X : Type 0} (f : X → X) (xs ys : List X) (n : ℕ) (a b : X) → 1 ≤ n → Some a ≡ row n xs → b ≡ f a → ys ≡ set xs (n - 1) b → alter f n xs ≡ ys
row_changed f xs ys n a b low e is done =
    alter_set f a xs n low ∙ ap (λ z. set xs (n - 1) (f z)) (row_or_some a n xs a e) ∙ ap (λ z. set xs (n - 1) z) (sym is) ∙ sym done

pub row_low : {X : Type 0} (n : ℕ) (xs : List X) (x : X) → Some x ≡ row n xs → 1 ≤ n
row_low zero xs x e = absurd cc
row_low (suc i) xs x e = omega arith

pub axis_changed : (f : AxisSettings → AxisSettings) (d : DeskModel) (ys : List AxisSettings) (n : ℕ) (a b : AxisSettings) → Some a ≡ row n d.axes → b ≡ f a → ys ≡ set d.axes (n - 1) b →
    (true, record { axes = ys; groups = d.groups }) ≡ on_axis f n d
axis_changed f d ys n a b e is done =
    ap (λ z. (true, record { axes = z; groups = d.groups })) (sym (row_changed f d.axes ys n a b (row_low n d.axes a e) e is done)) ∙ sym (cond-true _ _ _ (there_some n d.axes a e))

pub half_kept : {X Y : Type 0} (gs : List Y) (xs ys : List X) (i : ℕ) (y : X) → length gs ≡ length xs / 2 → ys ≡ set xs i y → length gs ≡ length ys / 2
half_kept gs xs ys i y h e = h ∙ ap (λ n. n / 2) (sym (ap length e ∙ length-set xs i y))
