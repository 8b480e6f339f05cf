-- Ticks until an axis rests. Assumes nothing.
use Rattle.std.specs.Prelude.{◌≡◌, ℕ, zero, suc, ◌≤◌, Bool, true, false, List, ℤ, ◌-ℤ◌, Ok, Err, Result, unsigned_abs}
use Rattle.drive.specs.declared.refusal.DriveRefusal.{DriveRefusal}
use Rattle.drive.specs.Model.{Axis, ask_axis, same, at_rest, tick_axes}

-- whether the axis numbered n rests
abbrev pub rests : ℕ → List Axis → Result Bool DriveRefusal
rests n axes = ask_axis at_rest n axes

-- whether two answers name one position; a refusal is passed up, the first of the two
abbrev pub same_answers : Result ℤ DriveRefusal → Result ℤ DriveRefusal → Result Bool DriveRefusal
same_answers (Ok p) (Ok t) = Ok (same p t)
same_answers (Ok p) (Err e) = Err e
same_answers (Err e) t = Err e

-- ticks until the axis numbered n rests, k more at most, where some are made already: how many are made then, and the axes
abbrev pub settling : ℕ → ℕ → Result Bool DriveRefusal → ℕ → List Axis → Result ℕ DriveRefusal × List Axis
settling made k (Err e) n axes = (Err e, axes)
settling made k (Ok true) n axes = (Ok made, axes)
settling made zero (Ok false) n axes = (Ok made, axes)
settling made (suc k) (Ok false) n axes = settling (suc made) k (rests n (tick_axes axes)) n (tick_axes axes)

-- ticks until the axis numbered n rests, `limit` at most
abbrev pub settled : ℕ → ℕ → List Axis → Result ℕ DriveRefusal × List Axis
settled n limit axes = settling 0 limit (rests n axes) n axes

-- how far the axis numbered n is from its target
abbrev pub way_left : ℕ → List Axis → Result ℕ DriveRefusal
way_left n axes = ask_axis (λ a. unsigned_abs (a.target -ℤ a.position)) n axes

-- Every drive arrives: no more ticks are made than micro-units were left, and where the limit allows for as many, the axis rests after
-- them.
abbrev pub Arrives : ℕ → ℕ → List Axis → Result ℕ DriveRefusal → List Axis → Type 0
Arrives n limit before made after = (left m : ℕ) → way_left n before ≡ Ok left → made ≡ Ok m → (m ≤ left) × (left ≤ limit → rests n after ≡ Ok true)
