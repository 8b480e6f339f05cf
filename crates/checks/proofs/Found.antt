-- Tests of numbers: the first that fails is that of the first number found.
use Rattle.std.proofs.Common.{◌≡◌, ℕ, Bool, true, false, not, List, [], ◌∷◌, map, refl}
use Rattle.std.specs.List.{find}
use Rattle.std.specs.Option.{option_map}
use Rattle.queue.specs.declared.error_entry.ErrorEntry.{ErrorEntry}
use Rattle.rules.specs.Refusals.{needs}
use Rattle.shape.specs.Verdicts.{verdict, judged}

pub judged_found : (p : ℕ → Bool) (e : ℕ → ErrorEntry) (ns : List ℕ) → judged (map (λ n. needs (p n) (e n)) ns) ≡ verdict (option_map e (find (λ n. not (p n)) ns))
judged_found p e [] = refl
judged_found p e (n ∷ ns) = by_test (p n) refl (judged_found p e ns)
  where
    by_test : (b : Bool) → p n ≡ b → judged (map (λ m. needs (p m) (e m)) ns) ≡ verdict (option_map e (find (λ m. not (p m)) ns)) → judged (map (λ m. needs (p m) (e m)) (n ∷ ns)) ≡ verdict (option_map e (find (λ m. not (p m)) (n ∷ ns)))
    by_test true h more = simp h more
    by_test false h more = simp h refl
