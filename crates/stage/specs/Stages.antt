-- What an axis answers about itself, and what a new one is. Assumes nothing.
use Rattle.std.specs.Prelude.{ℕ, min, max, false, ℤ, pos}
use Rattle.drive.specs.declared.profile.Profile.{Profile}
use Rattle.drive.specs.Model.{Axis}
use Rattle.stage.specs.declared.state.AxisState.{AxisState}

abbrev pub state_of : Axis → AxisState
state_of a = record { powered = a.powered; position = a.position; target = a.target; reach = a.reach }

-- the number of the range from low to high that is nearest to n
abbrev pub nearest : ℕ → ℕ → ℕ → ℕ
nearest low high n = min (max n low) high

-- the profile before the first start
abbrev pub no_profile : Profile
no_profile = record { velocity = 0; acceleration = 0; deceleration = 0 }

-- a new axis is without power at position 0
abbrev pub fresh_axis : (ℤ → ℤ → Profile → ℤ) → ℕ → Axis
fresh_axis rule n =
    record {
      powered = false;
      position = pos 0;
      target = pos 0;
      profile = no_profile;
      reach = nearest 1 2000000000 n;
      travel = rule;
    }
