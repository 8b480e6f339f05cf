-- The lines of a text, which end with LF (byte 10), with CR (byte 13) or with CR and LF. Assumes nothing.
use Rattle.std.specs.Prelude.{◌≡◌, ◌≢◌, ℕ, Bool, cond, ◌||◌, List, [], ◌∷◌, ◌==◌}

-- whether a byte ends a line
abbrev pub ends_line : ℕ → Bool
ends_line b = b == 10 || b == 13

-- the first line, without its end
abbrev pub first_line : List ℕ → List ℕ
first_line [] = []
first_line (b ∷ bs) = cond (ends_line b) [] (b ∷ first_line bs)

-- the text without an LF at its front
abbrev pub without_lf : List ℕ → List ℕ
without_lf [] = []
without_lf (b ∷ bs) = cond (b == 10) bs (b ∷ bs)

-- what stands behind the first line and its end
abbrev pub behind_line : List ℕ → List ℕ
behind_line [] = []
behind_line (b ∷ bs) = cond (b == 13) (without_lf bs) (cond (b == 10) bs (behind_line bs))

-- a text that is not empty, cut into its first line and what stands behind that
pub record CutsFirst (text line rest : List ℕ) : Type 0 where
  pub some : text ≢ []
  pub first : line ≡ first_line text
  pub behind : rest ≡ behind_line text
