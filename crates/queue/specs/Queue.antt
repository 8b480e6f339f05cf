-- A queue: the entries that wait, the oldest first. Assumes nothing.
use Rattle.std.specs.Prelude.{ℕ, min, Bool, true, false, cond, List, [], ◌∷◌, ◌++◌, length, take, drop, nat_lt}

module _ {X : Type 0} where
  -- what waits: the first n of the slots
  abbrev pub waiting : List X → ℕ → List X
  waiting slots n = take n slots

  -- how many may wait: as many as the kind allows, and no more than there are slots
  abbrev pub room : ℕ → List X → ℕ
  room most slots = min most (length slots)

  -- one more at the end, unless `most` wait
  abbrev pub added : ℕ → List X → X → Bool × List X
  added most q x = cond (nat_lt (length q) most) (true, q ++ x ∷ []) (false, q)

  -- one more at the end; where `most` wait, the oldest goes first
  abbrev pub pushed : ℕ → List X → X → List X
  pushed most q x = (added most (cond (nat_lt (length q) most) q (drop 1 q)) x).1
