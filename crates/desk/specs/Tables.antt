-- Tables whose rows are numbered from 1. Assumes nothing.
use Rattle.std.specs.Prelude.{ℕ, zero, suc, Bool, ◌&&◌, List, [], ◌∷◌, length, None, Option, nat_le, slice_index_or}
use Rattle.std.specs.List.{slice_get}

module _ {X : Type 0} where
  -- there is a row with that number
  abbrev pub there : ℕ → List X → Bool
  there n xs = nat_le 1 n && nat_le n (length xs)

  -- the row with that number, if there is one
  abbrev pub row : ℕ → List X → Option X
  row zero xs = None
  row (suc i) xs = slice_get xs i

  -- the same, and d if there is none
  abbrev pub row_or : X → ℕ → List X → X
  row_or d zero xs = d
  row_or d (suc i) xs = slice_index_or xs i d

  -- f changes what stands at i, counted from 0; the others are kept
  abbrev pub changed : (X → X) → ℕ → List X → List X
  changed f i [] = []
  changed f zero (x ∷ xs) = f x ∷ xs
  changed f (suc i) (x ∷ xs) = x ∷ changed f i xs

  -- f changes the row with that number, if there is one; the others are kept
  abbrev pub alter : (X → X) → ℕ → List X → List X
  alter f zero xs = xs
  alter f (suc i) xs = changed f i xs
