-- What the words of a script's line say. Assumes nothing.
use Rattle.std.specs.Prelude.{◌≡◌, ℕ, List, [], ◌∷◌, length, vec_items, codes}
use Rattle.std.specs.Str.Parse.{digits_value, without_leading_plus}
use Rattle.trials.specs.Hex.{Spells}
use Rattle.trials.specs.declared.script.Directive.{Directive}
use Rattle.trials.specs.declared.script.Directive.TheVariants.{Case, Drive, Reversed, Record, Open, Line, Ticks, Error}

-- the number that a word of digits writes; a plus may stand in front
abbrev pub number_in : List ℕ → ℕ
number_in w = digits_value 10 (without_leading_plus w)

-- a keyword and one word more
abbrev pub One : List (List ℕ) → List ℕ → (List ℕ → Type 0) → Type 0
One ws key P = (w : List ℕ) × (ws ≡ key ∷ w ∷ []) × P w

-- the words are a keyword and what a directive holds
abbrev pub Says : List (List ℕ) → Directive → Type 0
Says ws (Case n) = One ws (codes "case") (λ w. n ≡ number_in w)
Says ws (Drive b) = (rest : List (List ℕ)) × (ws ≡ codes "drive" ∷ rest)
Says ws (Reversed a) = One ws (codes "reversed") (λ w. a ≡ number_in w)
Says ws (Record v) = One ws (codes "record") (λ w. Spells w (vec_items v) × (length (vec_items v) ≡ 48))
Says ws Open = ws ≡ codes "open" ∷ []
Says ws (Line room v) = (w : List ℕ) × (u : List ℕ) × (ws ≡ codes "line" ∷ w ∷ u ∷ []) × (room ≡ number_in w) × Spells u (vec_items v)
Says ws (Ticks n) = One ws (codes "ticks") (λ w. n ≡ number_in w)
Says ws (Error n) = One ws (codes "error") (λ w. n ≡ number_in w)
