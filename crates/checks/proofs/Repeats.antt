-- Parameters that repeat earlier ones.
use Rattle.std.proofs.Common.{◌≡◌, ℕ, zero, suc, ◌<◌, ◌≤◌, Bool, true, false, not, ◌||◌, eqb, List, [], ◌∷◌, ◌++◌, map, length, get_or, take, drop, Some, None, Ok, Err, Option, Result, sym, refl, ap, ◌∙◌, subst, add-one, arith}
use Rattle.std.specs.List.{flat_map, enumerate_from, list_any}
use Rattle.std.proofs.lemmas.List.{map-append}
use Rattle.std.proofs.lemmas.Bool.Decides.{nat_tests}
use Rattle.command.specs.Commands.{Field}
use Rattle.queue.specs.declared.error_entry.ErrorEntry.{ErrorEntry}
use Rattle.queue.specs.declared.fault.Fault.TheVariants.{GroupAxisOutOfRange, GroupAxisDuplicated}
use Rattle.groups.specs.Groups.{has}
use Rattle.rules.specs.World.{Core, axis_count}
use Rattle.rules.specs.Refusals.{Test, needs, entry, value, units, number_or, between, whole_units, whole_within, each_axis, each_new}
use Rattle.shape.specs.Verdicts.{judged}

-- whether the parameter in a place repeats an earlier one
abbrev pub new_test : List Field → ℕ × Field → List Test
new_test ps p = needs (not (has (units p.1) (map units (take p.0 ps)))) (entry GroupAxisDuplicated p.1.column) ∷ []

-- a number is said by one of the parameters where it is among their numbers
pub said_by : (n : ℕ) (fs : List Field) → list_any (λ f. eqb (units f) n) fs ≡ has n (map units fs)
said_by n [] = refl
said_by n (f ∷ fs) = ap (λ b. eqb (units f) n || b) (said_by n fs)

-- being listed last is being listed first
pub has_last : (n x : ℕ) (ms : List ℕ) → has n (ms ++ x ∷ []) ≡ (eqb x n || has n ms)
has_last n x [] = refl
has_last n x (m ∷ ms) = ap (λ b. eqb m n || b) (has_last n x ms) ∙ swap (eqb m n) (eqb x n) (has n ms)
  where
    swap : (a b c : Bool) → (a || (b || c)) ≡ (b || (a || c))
    swap true true c = refl
    swap true false c = refl
    swap false true c = refl
    swap false false c = refl

-- which earlier ones there are matters, not their order
pub each_new_same : (xs ys : List ℕ) (fs : List Field) → ((n : ℕ) → has n xs ≡ has n ys) → each_new xs fs ≡ each_new ys fs
each_new_same xs ys [] h = refl
each_new_same xs ys (f ∷ fs) h =
    ap (λ b. needs (not b) (entry GroupAxisDuplicated f.column) ∷ each_new (units f ∷ xs) fs) (h (units f))
    ∙ ap (λ ts. needs (not (has (units f) ys)) (entry GroupAxisDuplicated f.column) ∷ ts) (each_new_same (units f ∷ xs) (units f ∷ ys) fs (λ n. ap (λ b. eqb (units f) n || b) (h n)))

-- one more is looked at
pub front_more : {X : Type 0} (ps : List X) (i : ℕ) (f : X) (rest : List X) → drop i ps ≡ f ∷ rest → (take (suc i) ps ≡ take i ps ++ f ∷ []) × (drop (suc i) ps ≡ rest)
front_more [] zero f rest e = absurd (grind arith)
front_more [] (suc i) f rest e = absurd (grind arith)
front_more (p ∷ ps) zero f rest e = (cc, cc)
front_more (p ∷ ps) (suc i) f rest e = let h = front_more ps i f rest e in (ap (λ qs. p ∷ qs) h.0, h.1)

-- the first parameters are looked at in turn, each against those before it
pub new_each : (ps : List Field) (i : ℕ) (rest : List Field) → drop i ps ≡ rest → flat_map (new_test ps) (enumerate_from i rest) ≡ each_new (map units (take i ps)) rest
new_each ps i [] e = refl
new_each ps i (f ∷ rest) e =
    let front = front_more ps i f rest e in
    let earlier = map units (take i ps) in
    let listed : map units (take (suc i) ps) ≡ earlier ++ units f ∷ [] = ap (map units) front.0 ∙ map-append units (take i ps) (f ∷ []) in
    let same = each_new_same (map units (take (suc i) ps)) (units f ∷ earlier) rest (λ n. ap (has n) listed ∙ has_last n (units f) earlier) in
    ap (λ ts. needs (not (has (units f) earlier)) (entry GroupAxisDuplicated f.column) ∷ ts) (ap (λ j. flat_map (new_test ps) (enumerate_from j rest)) (add-one i) ∙ (new_each ps (suc i) rest front.1 ∙ same))

-- a whole number within bounds is not above the higher one
pub between_high : (low high : ℕ) (o : Option ℕ) → between low high o ≡ true → number_or 0 o ≤ high
between_high low high (Some n) h = grind (arith, nat_tests)
between_high low high None h = absurd (grind arith)

ok_not_err : {e : ErrorEntry} → ◌≡◌ {A = Result Unit ErrorEntry} (Ok tt) (Err e) → ⊥
ok_not_err p = grind arith

-- the first of axes that were all found to be there is there, and the others are
pub first_axis : (k : Core) (f : Field) (fs : List Field) → judged (each_axis k (f ∷ fs)) ≡ Ok tt → (units f ≤ axis_count k) × (judged (each_axis k fs) ≡ Ok tt)
first_axis k f fs h = by_test (whole_within 1 (axis_count k) (value f)) refl
  where
    by_test : (b : Bool) → whole_within 1 (axis_count k) (value f) ≡ b → (units f ≤ axis_count k) × (judged (each_axis k fs) ≡ Ok tt)
    by_test true e = (between_high 1 (axis_count k) (whole_units (value f)) e, sym (ap (λ b. judged (needs b (entry GroupAxisOutOfRange f.column) ∷ each_axis k fs)) e) ∙ h)
    by_test false e = absurd (ok_not_err (sym h ∙ ap (λ b. judged (needs b (entry GroupAxisOutOfRange f.column) ∷ each_axis k fs)) e))

-- and so is each
pub each_there : (k : Core) (fs : List Field) → judged (each_axis k fs) ≡ Ok tt → (f : Field) (i : ℕ) → i < length fs → f ≡ get_or fs i f → units f ≤ axis_count k
each_there k [] h f i l e = absurd (omega arith)
each_there k (g ∷ fs) h f zero l e = subst (λ x. units x ≤ axis_count k) (sym e) (first_axis k g fs h).0
each_there k (g ∷ fs) h f (suc i) l e = each_there k fs (first_axis k g fs h).1 f i (omega arith) e
