-- Groups that are changed one after another. Assumes nothing.
use Rattle.std.proofs.Common.{◌≡◌, ℕ, zero, suc, ◌+◌, ◌-◌, ◌<◌, ◌≤◌, List, [], ◌∷◌, ◌++◌, map, length, take, drop, refl, ap, ◌∙◌, arith}
use Rattle.desk.specs.Tables.{changed, alter}

module _ {X : Type 0} where
  changed_next : (f : X → X) (k : ℕ) (xs : List X) → k < length xs → changed f k (map f (take k xs) ++ drop k xs) ≡ map f (take (suc k) xs) ++ drop (suc k) xs
  changed_next f k [] h = absurd (omega arith)
  changed_next f zero (x ∷ xs) h = refl
  changed_next f (suc k) (x ∷ xs) h = ap (λ ys. f x ∷ ys) (changed_next f k xs (omega arith))

  pub alter_all : (f : X → X) (k : ℕ) (xs : List X) → length xs ≤ k → map f (take k xs) ++ drop k xs ≡ map f xs
  alter_all f zero [] h = refl
  alter_all f (suc k) [] h = refl
  alter_all f zero (x ∷ xs) h = absurd (omega arith)
  alter_all f (suc k) (x ∷ xs) h = ap (λ ys. f x ∷ ys) (alter_all f k xs (omega arith))

  -- the rows before the i-th are changed, and now that one
  pub alter_next : (f : X → X) (i : ℕ) (xs : List X) → 1 ≤ i → i ≤ length xs → alter f i (map f (take (i - 1) xs) ++ drop (i - 1) xs) ≡ map f (take (i + 1 - 1) xs) ++ drop (i + 1 - 1) xs
  alter_next f zero xs h l = absurd (omega arith)
  alter_next f (suc k) xs h l =
      let before : suc k - 1 ≡ k = omega arith in
      let after : suc k ≡ suc k + 1 - 1 = omega arith in
      ap (λ j. changed f k (map f (take j xs) ++ drop j xs)) before ∙ changed_next f k xs (omega arith) ∙ ap (λ j. map f (take j xs) ++ drop j xs) after

  -- with the last one, all are
  pub alter_last : (f : X → X) (i : ℕ) (xs : List X) → 1 ≤ i → i ≡ length xs → alter f i (map f (take (i - 1) xs) ++ drop (i - 1) xs) ≡ map f xs
  alter_last f i xs h l =
      alter_next f i xs h (omega arith) ∙ alter_all f (i + 1 - 1) xs (omega arith)
