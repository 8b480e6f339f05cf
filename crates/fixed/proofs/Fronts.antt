-- The first items of an array, as `grind` applies them.
use Rattle.std.proofs.Common.{◌≡◌, ℕ, ◌<◌, ◌≤◌, List, take, set, replicate}
use Rattle.std.proofs.lemmas.List.{take-replicate}
use Rattle.std.proofs.Math.Seq.{take-set-lt}

module _ {X : Type 0} where
  pub take_same : (n most : ℕ) (x : X) → n ≤ most → take n (replicate most x) ≡ replicate n x
  take_same n most x h = take-replicate n most x h

  pub take_set_lt : (n : ℕ) (xs : List X) (i : ℕ) (x : X) → i < n → take n (set xs i x) ≡ set (take n xs) i x
  take_set_lt n xs i x h = take-set-lt n xs i x h
