-- Positions and targets of any axis are told in few bytes.
use Rattle.std.proofs.Common.{◌≡◌, ℕ, zero, suc, ◌*◌, ◌<◌, ◌≤◌, true, List, [], ◌∷◌, map, length, get_or, ℤ, nat_abs, arith}
use Rattle.std.specs.List.{AllByRecursion}
use Rattle.std.proofs.lemmas.Bool.{leb-true, and_parts}
use Rattle.number.specs.Texts.{list_text}
use Rattle.number.proofs.Lengths.{position_short}
use Rattle.drive.specs.Model.{Axis, SoundAxis, Sound}
use Rattle.desk.specs.declared.axis_settings.AxisSettings.{AxisSettings}
use Rattle.desk.specs.declared.desk_state.Desk.{Desk}
use Rattle.desk.specs.Tables.{row_or}
use Rattle.desk.specs.Axes.{no_axis, short}
use Rattle.desk.specs.Desks.{model_of}
use Rattle.rules.specs.World.{core_of, no_drive_axis}
use Rattle.rules.specs.Replies.{position_told}
use Rattle.answers.specs.Facts.{PlacesShort}
use Rattle.answers.proofs.Widths.{list_short}

digits_at : (i : ℕ) (xs : List AxisSettings) → short xs ≡ true → (get_or xs i no_axis).digits ≤ 6
digits_at i [] h = omega arith
digits_at zero (x ∷ xs) h = leb-true _ _ (and_parts _ (short xs) h).0
digits_at (suc i) (x ∷ xs) h = digits_at i xs (and_parts _ (short xs) h).1

digits_few : (d : Desk) (n : ℕ) → (row_or no_axis n (model_of d).axes).digits ≤ 6
digits_few d zero = omega arith
digits_few d (suc i) = digits_at i (model_of d).axes d.digits

module _ (f : Axis → ℤ) (within : (a : Axis) → SoundAxis a → nat_abs (f a) < 4294967296) (none : nat_abs (f no_drive_axis) < 4294967296) where
  at_index : (i : ℕ) (axes : List Axis) → AllByRecursion SoundAxis axes → nat_abs (f (get_or axes i no_drive_axis)) < 4294967296
  at_index i [] s = none
  at_index zero (a ∷ axes) s = within a s.0
  at_index (suc i) (a ∷ axes) s = at_index i axes s.1

  at_row : (n : ℕ) (axes : List Axis) → AllByRecursion SoundAxis axes → nat_abs (f (row_or no_drive_axis n axes)) < 4294967296
  at_row zero axes s = none
  at_row (suc i) axes s = at_index i axes s

pub places_short : (d : Desk) (axes : List Axis) → Sound axes → PlacesShort (core_of d axes)
places_short d axes s = record {
  position = λ n. position_short _ _ (digits_few d n) (at_row (λ a. a.position) (λ a t. omega (arith, t.position_in, t.most_reach)) (omega arith) n axes s.each);
  target = λ n. position_short _ _ (digits_few d n) (at_row (λ a. a.target) (λ a t. omega (arith, t.target_in, t.most_reach)) (omega arith) n axes s.each);
}

pub places_list : (d : Desk) (axes : List Axis) (ns : List ℕ) → Sound axes → length (list_text (map (position_told (core_of d axes)) ns)) ≤ length ns * 13
places_list d axes ns s = list_short (position_told (core_of d axes)) 12 ns (λ i. (places_short d axes s).position (get_or ns i 0))
