-- What a drive is told, one call after another, and what stays as it is whatever a drive is told. Assumes nothing.
use Rattle.std.specs.Prelude.{◌≡◌, ℕ, List, [], ◌∷◌, map, ℤ}
use Rattle.drive.specs.declared.profile.Profile.{Profile}
use Rattle.drive.specs.Model.{Axis, Sound, at_axis, power_on_axis, power_off_axis, start_axis, stop_axis, set_position_axis, tick_axes}

-- a call that may change the drive, with the number of the axis
pub data Told : Type 0 where
  power_on : ℕ → Told
  power_off : ℕ → Told
  start : ℕ → ℤ → Profile → Told
  stop : ℕ → Told
  set_position : ℕ → ℤ → Told
  tick : Told

-- the axes after a call
abbrev pub done : Told → List Axis → List Axis
done (power_on n) axes = (at_axis power_on_axis n axes).1
done (power_off n) axes = (at_axis power_off_axis n axes).1
done (start n t q) axes = (at_axis (start_axis t q) n axes).1
done (stop n) axes = (at_axis stop_axis n axes).1
done (set_position n p) axes = (at_axis (set_position_axis p) n axes).1
done tick axes = tick_axes axes

-- the axes after a list of calls
abbrev pub replay : List Told → List Axis → List Axis
replay [] axes = axes
replay (t ∷ more) axes = replay more (done t axes)

-- Whatever these axes are told, refused calls among it: the laws of a drive hold after it, no axis is won or lost, and each has the
-- reach and the rule of travel that it had.
pub record Lasting (axes : List Axis) : Type 0 where
  pub sound : (ts : List Told) → Sound (replay ts axes)
  pub reaches : (ts : List Told) → map (λ a. a.reach) (replay ts axes) ≡ map (λ a. a.reach) axes
  pub rules : (ts : List Told) → map (λ a. a.travel) (replay ts axes) ≡ map (λ a. a.travel) axes
