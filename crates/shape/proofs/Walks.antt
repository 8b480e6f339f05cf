-- Tests that are made of each item that an iterator gives.
use Rattle.std.proofs.Common.{◌≡◌, ℕ, suc, ◌+◌, List, [], ◌∷◌, ◌++◌, map, length, take, drop, IsErr, IsErrAnd, Some, None, Ok, Err, Option, Result, sym, refl, ap, ◌∙◌, subst, add-one}
use denote.Param.Members.{Mut, Called}
use Rattle.std.specs.Iterator.{TryCallsOnEach, TryForEachTurn, YieldsThen}
use Rattle.std.specs.List.{FoldsTo, flat_map, enumerate_from}
use Rattle.std.specs.Option.{MatchOption}
use Rattle.std.specs.Result.{result_from_control_flow}
use Rattle.std.specs.declared.ops.ControlFlow.{ControlFlow}
use Rattle.std.specs.declared.ops.ControlFlow.TheVariants.{Continue, Break}
use Rattle.std.proofs.lemmas.Grind.{flat_map-append}
use Rattle.std.proofs.lemmas.List.{take-append-drop, drop_more}
use Rattle.std.proofs.lemmas.List.Concat.{flat_map_single}
use Rattle.std.proofs.lemmas.Iterator.{YieldsList}
use Rattle.std.proofs.lemmas.Iterator.Consumers.{YieldsList-so_far, YieldsList-turn, YieldsList-end}
use Rattle.queue.specs.declared.error_entry.ErrorEntry.{ErrorEntry}
use Rattle.rules.specs.Refusals.{Test}
use Rattle.shape.specs.Verdicts.{judged}
use Rattle.shape.proofs.Chains.{passes, fails, broken}

module _ {S A B F : Type 0} {steps : S → Option A → S → Type 0} {v : A → B} {s : S} {all : List B} (road : YieldsList steps v s all) (g : Mut F (A × Unit {0}) (Result Unit ErrorEntry)) (h : B → List Test) {f : F}
    (answers : (x : A) (b : Result Unit ErrorEntry) (q : F) → Called g f (x, tt) b q → (q ≡ f) × (b ≡ judged (h (v x)))) where
  module _ {E : Type 0} (branches : Result Unit ErrorEntry → ControlFlow E Unit → Type 0) (resumes : E → Result Unit ErrorEntry → Type 0)
      (goes : (b : Result Unit ErrorEntry) → branches b (Continue tt) → b ≡ Ok tt)
      (stops : (b r : Result Unit ErrorEntry) (e : E) → branches b (Break e) → resumes e r → (x : ErrorEntry) × (b ≡ Err x) × (r ≡ Err x)) where
    all_passed : (xs : List A) (q : F) → FoldsTo (TryForEachTurn g branches) f xs q → (q ≡ f) × (judged (flat_map h (map v xs)) ≡ Ok tt)
    all_passed [] q c = (sym c, refl)
    all_passed (x ∷ xs) q c =
        let a = answers x c.1.0 c.0 c.1.1 in
        let m = all_passed xs q (subst (λ p. FoldsTo (TryForEachTurn g branches) p xs q) a.0 c.2) in
        (m.0, passes (h (v x)) (flat_map h (map v xs)) (sym a.1 ∙ goes c.1.0 c.1.2) m.1)

    decided : (xs : List A) (r : Result Unit ErrorEntry) (o : Option A) (q : F) (u : S) → YieldsThen steps s xs o u → FoldsTo (TryForEachTurn g branches) f xs q
        → MatchOption o (branches r (Continue tt)) (λ x. (b : Result Unit ErrorEntry) × (w : F) × (e : E) × Called g q (x, tt) b w × branches b (Break e) × resumes e r)
        → r ≡ judged (flat_map h all)
    decided xs r None q u y c m =
        let end = YieldsList-end road xs y.0 y.1 None u refl y.2 in
        goes r m ∙ sym (sym (ap (λ ys. judged (flat_map h ys)) end.0) ∙ (all_passed xs q c).1)
    decided xs r (Some x) q u y c m =
        let n = length xs in
        let so = YieldsList-so_far road xs y.0 y.1 in
        let turn = YieldsList-turn road xs y.0 y.1 (Some x) u x refl y.2 in
        let p = all_passed xs q c in
        let a = answers x m.0 m.1 (subst (λ w. Called g w (x, tt) m.0 m.1) p.0 m.3) in
        let stop = stops m.0 r m.2 m.4 m.5 in
        let rest = drop (n + 1) all in
        let here : drop n all ≡ v x ∷ rest = drop_more all n (v x) turn.0 ∙ ap (λ y. y ∷ rest) (sym turn.1) in
        let split : map v xs ++ v x ∷ rest ≡ all = ap (λ ys. ys ++ v x ∷ rest) so ∙ (ap (λ ys. take n all ++ ys) (sym here) ∙ take-append-drop n all) in
        stop.2
        ∙ sym (sym (ap (λ ys. judged (flat_map h ys)) split) ∙ (ap judged (flat_map-append h (map v xs) (v x ∷ rest)) ∙ passes (flat_map h (map v xs)) (flat_map h (v x ∷ rest)) p.1 (fails (h (v x)) (flat_map h rest) (sym a.1 ∙ stop.1))))

  -- the first error of the calls is that of the first test that fails
  pub judged_each : {r : Result Unit ErrorEntry} {u : S} → TryCallsOnEach steps g (λ b c. b ≡ result_from_control_flow c) (λ e b. IsErr b × IsErrAnd b (λ x. x ≡ e.0)) s f r u → r ≡ judged (flat_map h all)
  judged_each {r} {u} d = decided (λ b c. b ≡ result_from_control_flow c) (λ e b. IsErr b × IsErrAnd b (λ x. x ≡ e.0)) (λ b k. k) (λ b r e k l. (e.0, k, broken r l.1)) d.0 r d.1 d.2 u d.3 d.4 d.5

-- the same where each item has one test
module _ {S A B F : Type 0} {steps : S → Option A → S → Type 0} {v : A → B} {s : S} {all : List B} (road : YieldsList steps v s all) (g : Mut F (A × Unit {0}) (Result Unit ErrorEntry)) (t : B → Test) {f : F}
    (answers : (x : A) (b : Result Unit ErrorEntry) (q : F) → Called g f (x, tt) b q → (q ≡ f) × (b ≡ judged (t (v x) ∷ []))) where
  pub judged_map : {r : Result Unit ErrorEntry} {u : S} → TryCallsOnEach steps g (λ b c. b ≡ result_from_control_flow c) (λ e b. IsErr b × IsErrAnd b (λ x. x ≡ e.0)) s f r u → r ≡ judged (map t all)
  judged_map d = judged_each road g (λ y. t y ∷ []) answers d ∙ ap judged (flat_map_single t all)

-- tests of numbered items, one after another
pub numbered : {X : Type 0} (h : ℕ × X → List Test) (F : ℕ → List X → List Test) → ((i : ℕ) → F i [] ≡ []) → ((i : ℕ) (x : X) (xs : List X) → F i (x ∷ xs) ≡ h (i, x) ++ F (suc i) xs) → (i : ℕ) (xs : List X) → flat_map h (enumerate_from i xs) ≡ F i xs
numbered h F none one i [] = sym (none i)
numbered h F none one i (x ∷ xs) = ap (λ ts. h (i, x) ++ ts) (numbered h F none one (i + 1) xs ∙ ap (λ j. F j xs) (add-one i)) ∙ sym (one i x xs)
