-- Desk and drive compared axis by axis.
use Rattle.std.proofs.Common.{◌≡◌, ℕ, zero, suc, ◌+◌, ◌≤◌, min, Bool, true, false, ◌&&◌, List, [], ◌∷◌, length, get_or, drop, drop-cons, int_le, sym, refl, ap, ◌∙◌, ⊎_elim, arith}
use Rattle.std.specs.List.{list_all}
use Rattle.std.proofs.lemmas.List.{drop_all}
use Rattle.std.proofs.lemmas.Bool.{cases_lt}
use Rattle.drive.specs.Model.{Axis}
use Rattle.desk.specs.declared.axis_settings.AxisSettings.{AxisSettings}
use Rattle.desk.specs.Tables.{row_or}
use Rattle.desk.specs.Axes.{no_axis}
use Rattle.rules.specs.World.{numbers_from, no_drive_axis}
use Rattle.rules.specs.Calls.{within_reach, matches, placed}

-- neither limit of the axis n passes its reach
abbrev pub reached : List AxisSettings → List Axis → ℕ → Bool
reached ss axes n = within_reach (row_or no_drive_axis n axes) (row_or no_axis n ss).left && within_reach (row_or no_drive_axis n axes) (row_or no_axis n ss).right

-- the position of the axis n lies within its limits
abbrev pub within_limits : List AxisSettings → List Axis → ℕ → Bool
within_limits ss axes n = int_le (row_or no_axis n ss).left (row_or no_drive_axis n axes).position && int_le (row_or no_drive_axis n axes).position (row_or no_axis n ss).right

-- another number of axes
pub matches_length : (ss : List AxisSettings) (axes : List Axis) → (length ss ≡ length axes → ⊥) → matches ss axes ≡ false
matches_length [] [] h = absurd (h refl)
matches_length [] (a ∷ axes) h = refl
matches_length (s ∷ ss) [] h = refl
matches_length (s ∷ ss) (a ∷ axes) h = ap (λ b. within_reach a s.left && within_reach a s.right && b) (matches_length ss axes (λ e. h (omega (arith, e)))) ∙ no (within_reach a s.left && within_reach a s.right)
  where
    no : (a : Bool) → (a && false) ≡ false
    no true = refl
    no false = refl

placed_none : (xs : List AxisSettings) → placed xs [] ≡ true
placed_none [] = refl
placed_none (x ∷ xs) = refl

-- the axes behind the first k, one by one
pub matches_each : (ss : List AxisSettings) (axes : List Axis) (m k : ℕ) → length ss ≡ length axes → k + m ≡ length ss → list_all (reached ss axes) (numbers_from (suc k) m) ≡ matches (drop k ss) (drop k axes)
matches_each ss axes zero k e h = sym (ap (λ xs. matches xs (drop k axes)) (drop_all k ss (omega (arith, h))) ∙ ap (matches []) (drop_all k axes (omega (arith, e, h))))
matches_each ss axes (suc m) k e h =
    ap (λ b. reached ss axes (suc k) && b) (matches_each ss axes m (suc k) e (omega (arith, h)))
    ∙ sym (ap (λ xs. matches xs (drop k axes)) (drop-cons ss k no_axis (omega (arith, h)))
    ∙ ap (matches (get_or ss k no_axis ∷ drop (suc k) ss)) (drop-cons axes k no_drive_axis (omega (arith, e, h))))

pub placed_each : (ss : List AxisSettings) (axes : List Axis) (m k : ℕ) → k + m ≡ min (length ss) (length axes) → list_all (within_limits ss axes) (numbers_from (suc k) m) ≡ placed (drop k ss) (drop k axes)
placed_each ss axes zero k h =
    sym (⊎_elim (λ l. ap (placed (drop k ss)) (drop_all k axes (omega (arith, h, l))) ∙ placed_none (drop k ss)) (λ l. ap (λ xs. placed xs (drop k axes)) (drop_all k ss l)) (cases_lt k (length ss)))
placed_each ss axes (suc m) k h =
    ap (λ b. within_limits ss axes (suc k) && b) (placed_each ss axes m (suc k) (omega (arith, h)))
    ∙ sym (ap (λ xs. placed xs (drop k axes)) (drop-cons ss k no_axis (omega (arith, h)))
    ∙ ap (placed (get_or ss k no_axis ∷ drop (suc k) ss)) (drop-cons axes k no_drive_axis (omega (arith, h))))
