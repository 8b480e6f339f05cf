-- The ledger's counts and groups, and the axes that a command names.
use Rattle.std.proofs.Common.{◌≡◌, ℕ, zero, suc, ◌≤◌, Bool, true, false, cond, not, ◌||◌, T, eqb, List, [], ◌∷◌, map, length, Some, None, Option, sym, refl, ap, ◌∙◌, subst, ap₂, arith, eqb→eq}
use lib.Dec.{eqb_refl}
use Rattle.std.proofs.lemmas.Bool.Decides.{nat_tests}
use Rattle.std.proofs.lemmas.Bool.{ne_eqb}
use Rattle.std.specs.List.{list_all}
use Rattle.drive.specs.declared.profile.Profile.{Profile}
use Rattle.command.specs.Commands.{Field}
use Rattle.groups.specs.Groups.{has}
use Rattle.groups.specs.Profiles.{least}
use Rattle.desk.specs.declared.axis_settings.AxisSettings.{AxisSettings}
use Rattle.desk.specs.Tables.{there, row_or, alter}
use Rattle.desk.specs.Axes.{own_of, smallest_own}
use Rattle.rules.specs.World.{Core, axis_count, grouped}
use Rattle.rules.specs.Refusals.{value, units, whole_units, between, number_or, each_axis, each_new, each_free}
use Rattle.laws.specs.Ledger.{Ledger, put, taken_in, let_go, smallest}
use Rattle.laws.specs.Laws.{Balanced, InOneAtMost}
use Rattle.laws.proofs.Basics.{Passed, alter_keeps, alter_gives, and_both, has_case, has_first, has_later, not_both, true_of}

-- ---- tables and functions

module _ {X Y : Type 0} (f : X → X) (get : X → Y) (n : ℕ) (xs : List X) (d : X) (old : ℕ → Y) (agree : (j : ℕ) → get (row_or d j xs) ≡ old j) where
  -- a row changed is an entry put
  pub row_put : (y : Y) → 1 ≤ n → n ≤ length xs → get (f (row_or d n xs)) ≡ y → (j : ℕ) → get (row_or d j (alter f n xs)) ≡ put n y old j
  row_put y low high here =
      alter_gives (λ j x. get x ≡ put n y old j) f n xs d low high
      (λ j e. agree j ∙ sym (ap (λ b. cond b y (old j)) (ne_eqb j n e)))
      (here ∙ sym (ap (λ b. cond b y (old n)) (true_of (eqb n n) (eqb_refl n))))

  -- what a change does not touch
  pub row_same : get (f (row_or d n xs)) ≡ get (row_or d n xs) → (j : ℕ) → get (row_or d j (alter f n xs)) ≡ old j
  row_same here = alter_keeps (λ j x. get x ≡ old j) f n xs d agree (here ∙ agree n)

-- ---- groups of the ledger

pub let_go_balanced : (g : ℕ) (l : Ledger) → 1 ≤ g → Balanced l → Balanced (let_go g l)
let_go_balanced g l low h n = let b = h n in grind (arith, nat_tests)

pub let_go_single : (g : ℕ) (l : Ledger) → 1 ≤ g → InOneAtMost l → InOneAtMost (let_go g l)
let_go_single g l low h i n = let e = h i n in grind (arith, nat_tests)

pub taken_in_balanced : (g : ℕ) (ns : List ℕ) (l : Ledger) → 1 ≤ g → ((n : ℕ) → T (has n ns) → l.group n ≡ 0) → Balanced l → Balanced (taken_in g ns l)
taken_in_balanced g ns l low free h n = let b = h n in let e = free n in grind (arith, nat_tests)

pub taken_in_single : (g : ℕ) (ns : List ℕ) (l : Ledger) → 1 ≤ g → ((n : ℕ) → T (has n ns) → l.group n ≡ 0) → l.members g ≡ [] → InOneAtMost l → InOneAtMost (taken_in g ns l)
taken_in_single g ns l low free none h i n = let e = h i n in let f = free n in grind (arith, nat_tests)

-- an axis that no group lists is in none
pub in_none : (l : Ledger) → InOneAtMost l → (n : ℕ) → ((g : ℕ) → T (has n (l.members (suc g))) → ⊥) → l.group n ≡ 0
in_none l h n out = by (l.group n) refl
  where
    by : (m : ℕ) → l.group n ≡ m → m ≡ 0
    by zero e = refl
    by (suc g) e = absurd (out g (subst T (sym (h g n ∙ ap (λ j. eqb j (suc g)) e)) (eqb_refl (suc g))))

-- ---- the smallest figures

map_same : (f g : ℕ → Profile) → ((n : ℕ) → f n ≡ g n) → (ns : List ℕ) → map f ns ≡ map g ns
map_same f g h [] = refl
map_same f g h (n ∷ ns) = ap₂ ◌∷◌ (h n) (map_same f g h ns)

pub smallest_same : (axes : List AxisSettings) (own : ℕ → Profile) → ((n : ℕ) → own_of axes n ≡ own n) → (ns : List ℕ) → smallest_own axes ns ≡ smallest own ns
smallest_same axes own h [] = refl
smallest_same axes own h (n ∷ ns) = ap₂ least (h n) (map_same (own_of axes) own h ns)

-- ---- no more different numbers from 1 to n than n

abbrev Apart : List ℕ → Type 0
Apart [] = Unit {0}
Apart (m ∷ ms) = (T (has m ms) → ⊥) × Apart ms

abbrev without : ℕ → List ℕ → List ℕ
without n [] = []
without n (m ∷ ms) = cond (eqb m n) ms (m ∷ without n ms)

without_length : (n : ℕ) (ms : List ℕ) → length ms ≤ suc (length (without n ms))
without_length n [] = omega arith
without_length n (m ∷ ms) = elim (eqb m n) as (λ b. suc (length ms) ≤ suc (length (cond b ms (m ∷ without n ms)))) [ true ↦ omega arith | false ↦ let h = without_length n ms in omega arith ]

without_has : (n : ℕ) (ms : List ℕ) (m : ℕ) → T (has m (without n ms)) → T (has m ms)
without_has n [] m h = h
without_has n (j ∷ ms) m h =
    elim (eqb j n) as (λ b. T (has m (cond b ms (j ∷ without n ms))) → T (has m (j ∷ ms))) [
      | true ↦ has_later m j ms
      | false ↦ has_case m j (without n ms) (λ q. subst (λ i. T (has i (j ∷ ms))) q (has_first j ms)) (λ e. has_later m j ms (without_has n ms m e))
    ] h

without_apart : (n : ℕ) (ms : List ℕ) → Apart ms → Apart (without n ms)
without_apart n [] h = tt
without_apart n (m ∷ ms) h = elim (eqb m n) as (λ b. Apart (cond b ms (m ∷ without n ms))) [ true ↦ h.1 | false ↦ ((λ e. h.0 (without_has n ms m e)), without_apart n ms h.1) ]

without_gone : (n : ℕ) (ms : List ℕ) → Apart ms → T (has n (without n ms)) → ⊥
without_gone n [] h e = e
without_gone n (m ∷ ms) h e = by (without_gone n ms h.1) (eqb m n) refl e
  where
    by : (T (has n (without n ms)) → ⊥) → (b : Bool) → eqb m n ≡ b → T (has n (cond b ms (m ∷ without n ms))) → ⊥
    by out true q t = h.0 (subst (λ j. T (has j ms)) (sym (eqb→eq m n (subst T (sym q) tt))) t)
    by out false q t = out (subst (λ b. T (b || has n (without n ms))) q t)

pub pigeons : (n : ℕ) (ms : List ℕ) → Apart ms → ((m : ℕ) → T (has m ms) → 1 ≤ m) → ((m : ℕ) → T (has m ms) → m ≤ n) → length ms ≤ n
pigeons zero [] h low high = omega arith
pigeons zero (m ∷ ms) h low high =
    let e = has_first m ms in
    let a = low m e in let b = high m e in absurd (omega arith)
pigeons (suc n) ms h low high =
    let rest = without (suc n) ms in
    let r : length rest ≤ n = pigeons n rest (without_apart (suc n) ms h) (λ m e. low m (without_has (suc n) ms m e))
    (λ m e.
    let u = high m (without_has (suc n) ms m e) in
    let ne : m ≡ suc n → ⊥ = λ q. without_gone (suc n) ms h (subst (λ j. T (has j rest)) q e) in
    omega (arith, ne)) in
    let l = without_length (suc n) ms in
    omega arith

-- ---- the axes that HN names

pub names_there : (k : Core) (fs : List Field) → Passed (each_axis k fs) → T (list_all (λ m. there m k.desk.axes) (map units fs))
names_there k [] h = tt
names_there k (f ∷ fs) h = and_both (there (units f) k.desk.axes) (list_all (λ m. there m k.desk.axes) (map units fs)) (whole (whole_units (value f)) h.0) (names_there k fs h.1)
  where
    whole : (o : Option ℕ) → T (between 1 (axis_count k) o) → T (there (number_or 0 o) k.desk.axes)
    whole (Some n) t = t
    whole None t = absurd t

new_out : (earlier : List ℕ) (fs : List Field) → Passed (each_new earlier fs) → (x : ℕ) → T (has x earlier) → T (has x (map units fs)) → ⊥
new_out earlier [] h x e i = i
new_out earlier (f ∷ fs) h x e i =
    has_case x (units f) (map units fs) (λ q. not_both (has (units f) earlier) h.0 (subst (λ j. T (has j earlier)) (sym q) e))
    (new_out (units f ∷ earlier) fs h.1 x (has_later x (units f) earlier e)) i

pub names_apart : (earlier : List ℕ) (fs : List Field) → Passed (each_new earlier fs) → Apart (map units fs)
names_apart earlier [] h = tt
names_apart earlier (f ∷ fs) h = (new_out (units f ∷ earlier) fs h.1 (units f) (has_first (units f) earlier), names_apart (units f ∷ earlier) fs h.1)

pub names_free : (k : Core) (fs : List Field) → Passed (each_free k fs) → (n : ℕ) → T (has n (map units fs)) → T (not (grouped k n))
names_free k [] h n e = absurd e
names_free k (f ∷ fs) h n e = has_case n (units f) (map units fs) (λ q. subst (λ j. T (not (grouped k j))) q h.0) (names_free k fs h.1 n) e
