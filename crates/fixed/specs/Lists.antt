-- What a list of fixed capacity holds. Assumes nothing.
use Rattle.std.specs.Prelude.{ℕ, cond, List, [], ◌∷◌, ◌++◌, length, take, Some, None, Ok, Err, Option, Result, nat_le, nat_lt}
use Rattle.fixed.specs.declared.list.FixedList.{FixedList}

module _ {X : Type 0} where
  -- the items, in order
  abbrev pub held : {N : ℕ} → FixedList X N → List X
  held list = take list.len list.items

  -- the items of a list, if there is one
  abbrev pub listed : {N : ℕ} → Option (FixedList X N) → Option (List X)
  listed (Some list) = Some (held list)
  listed None = None

  -- a list of n items at most
  abbrev pub fitting : ℕ → List X → Option (List X)
  fitting n xs = cond (nat_le (length xs) n) (Some xs) None

  -- one more at the end; handed back where n are held
  abbrev pub appended : ℕ → List X → X → Result (Unit {0}) X × List X
  appended n xs x = cond (nat_lt (length xs) n) (Ok tt, xs ++ x ∷ []) (Err x, xs)
