-- Tests made one after another.
use Rattle.std.proofs.Common.{◌≡◌, true, false, List, [], ◌∷◌, ◌++◌, ◌⊎◌, inl, inr, IsErrAnd, Ok, Err, Result, refl, ap, ◌∙◌, arith}
use Rattle.std.proofs.lemmas.Result.{err_from_is_err_and}
use Rattle.queue.specs.declared.error_entry.ErrorEntry.{ErrorEntry}
use Rattle.rules.specs.Refusals.{Test, needs}
use Rattle.shape.specs.Verdicts.{judged}

-- where the first tests pass, those behind them decide
pub passes : (xs ys : List Test) {r : Result Unit ErrorEntry} → judged xs ≡ Ok tt → judged ys ≡ r → judged (xs ++ ys) ≡ r
passes [] ys p q = q
passes (needs true e ∷ xs) ys p q = passes xs ys p q
passes (needs false e ∷ xs) ys p q = absurd (grind arith)

-- where one of the first fails, it decides
pub fails : (xs ys : List Test) {e : ErrorEntry} → judged xs ≡ Err e → judged (xs ++ ys) ≡ Err e
fails [] ys p = absurd (grind arith)
fails (needs true e ∷ xs) ys p = fails xs ys p
fails (needs false e ∷ xs) ys p = p

-- tests behind others: where the first pass they decide, and where one of the first fails, it does
pub in_order : (xs ys : List Test) → ((judged xs ≡ Ok tt) × (judged (xs ++ ys) ≡ judged ys)) ⊎ ((e : ErrorEntry) × (judged xs ≡ Err e) × (judged (xs ++ ys) ≡ Err e))
in_order [] ys = inl (refl, refl)
in_order (needs true e ∷ xs) ys = in_order xs ys
in_order (needs false e ∷ xs) ys = inr (e, refl, refl)

-- where all pass, the first do
pub front_passed : (xs ys : List Test) → judged (xs ++ ys) ≡ Ok tt → judged xs ≡ Ok tt
front_passed [] ys p = refl
front_passed (needs true e ∷ xs) ys p = front_passed xs ys p
front_passed (needs false e ∷ xs) ys p = p

-- what `?` returns
pub broken : (r : Result Unit ErrorEntry) {e : ErrorEntry} → IsErrAnd r (λ x. x ≡ e) → r ≡ Err e
broken r h = let p = err_from_is_err_and r h in p.1 ∙ ap Err p.2
