-- The first n slots, after one more entry and after a turn.
use Rattle.std.proofs.Common.{◌≡◌, ℕ, ◌+◌, ◌-◌, ◌<◌, ◌≤◌, min, List, [], ◌∷◌, ◌++◌, length, take, drop, set, sym, refl, ap, ◌∙◌, ⊎_elim, append_assoc, arith}
use Rattle.std.proofs.lemmas.List.{take_at, take_all, take_more_set, length-drop, length-take, length-take-le}
use Rattle.std.proofs.lemmas.Bool.{cases_lt}

module _ {X : Type 0} where
  -- no more wait than there are slots
  pub front_min : (xs : List X) (len n : ℕ) → n ≡ min len (length xs) → take n xs ≡ take len xs
  front_min xs len n e =
      ⊎_elim (λ lt. ap (λ k. take k xs) (omega arith)) (λ le. ap (λ k. take k xs) (let k : n ≡ length xs = omega arith in k) ∙ take_all (length xs) xs (omega arith) ∙ sym (take_all len xs le)) (cases_lt len (length xs))

  pub front_all : (xs : List X) (len n : ℕ) → n ≡ length (take len xs) → take n xs ≡ take len xs
  front_all xs len n e = front_min xs len n (e ∙ length-take len xs)

  pub behind : (xs : List X) (len n : ℕ) (x : X) → n ≡ length (take len xs) → n < length xs → take (n + 1) (set xs n x) ≡ take len xs ++ x ∷ []
  behind xs len n x e lt = take_more_set xs n x lt ∙ ap (λ q. q ++ x ∷ []) (front_all xs len n e)

  pub turned : (xs ys zs : List X) (len n : ℕ) → n ≡ length (take len xs) → ys ≡ drop 1 (take n xs) ++ take 1 (take n xs) → take (n - 1) (ys ++ zs) ≡ drop 1 (take len xs)
  turned xs ys zs len n k e =
      let h : n ≤ length xs = omega (arith, length-take len xs) in
      rw (e, append_assoc) (take_at (drop 1 (take n xs)) _ (n - 1) (simp (length-drop, length-take-le) refl)) ∙ ap (λ q. drop 1 q) (front_all xs len n k)
