-- A line, and its parts between separators.
use Rattle.std.specs.Prelude.{ℕ, ◌+◌, ◌-◌, Bool, cond, not, List, [], ◌∷◌, length, take, drop, Some, None, Option, ◌==◌, nat_lt}
use Rattle.std.specs.List.{prefix_len, suffix_len}

-- byte 32 alone is a blank
abbrev pub blank : ℕ → Bool
blank b = b == 32

-- a byte that is not the separator s
abbrev pub apart : ℕ → ℕ → Bool
apart s b = not (b == s)

-- the line that ends at the first CR, and the bytes taken, CR counted
abbrev pub line_of : List ℕ → Option (List ℕ × ℕ)
line_of xs = cond (nat_lt (prefix_len (apart 13) xs) (length xs)) (Some (take (prefix_len (apart 13) xs) xs, prefix_len (apart 13) xs + 1)) None

-- a part of a line: the column of its first byte, and its bytes
abbrev pub Part : Type 0
Part = ℕ × List ℕ

-- bytes without the blanks around them
abbrev pub trimmed : List ℕ → List ℕ
trimmed xs = take (length (drop (prefix_len blank xs) xs) - suffix_len blank (drop (prefix_len blank xs) xs)) (drop (prefix_len blank xs) xs)

-- a part without the blanks around it
abbrev pub bare : Part → Part
bare p = (p.0 + prefix_len blank p.1, trimmed p.1)

-- the first n bytes of a part
abbrev pub front : ℕ → Part → Part
front n p = (p.0, take n p.1)

-- a part without its first n bytes
abbrev pub past : ℕ → Part → Part
past n p = (p.0 + n, drop n p.1)

-- what follows the byte n of a part, if there is one
abbrev pub behind : ℕ → Part → Option Part
behind n p = cond (nat_lt n (length p.1)) (Some (past (n + 1) p)) None

-- the bytes up to the first separator s
abbrev pub up_to : ℕ → List ℕ → List ℕ
up_to s [] = []
up_to s (x ∷ xs) = cond (apart s x) (x ∷ up_to s xs) []

-- the parts ps, and in front of them the part p unless it is inside another
abbrev pub begun : Bool → Part → List Part → List Part
begun inside p ps = cond inside ps (p ∷ ps)

-- the parts that begin behind a separator; c is the column of the first byte
abbrev pub later : ℕ → ℕ → List ℕ → List Part
later s c [] = []
later s c (x ∷ xs) = begun (apart s x) (c + 1, up_to s xs) (later s (c + 1) xs)

-- the parts between separators; c is the column of the first byte
abbrev pub parts : ℕ → ℕ → List ℕ → List Part
parts s c xs = (c, up_to s xs) ∷ later s c xs

-- the parts of what is left, if anything is
abbrev pub parts_left : ℕ → Option Part → List Part
parts_left s None = []
parts_left s (Some p) = parts s p.0 p.1
