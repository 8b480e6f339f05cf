-- The settings of an axis, and how each is changed. Assumes nothing.
use Rattle.std.specs.Prelude.{ℕ, Bool, List, [], ◌∷◌, map, take, ℤ, pos, nat_le}
use Rattle.std.specs.List.{list_all}
use Rattle.drive.specs.declared.profile.Profile.{Profile}
use Rattle.setup.specs.declared.record.SetupRecord.{SetupRecord}
use Rattle.setup.specs.Records.{text_length}
use Rattle.groups.specs.Profiles.{no_profile, least}
use Rattle.desk.specs.declared.axis_settings.AxisSettings.{AxisSettings}
use Rattle.desk.specs.Tables.{row_or}

-- the settings at the opening: the maxima as own figures, and 4 digits
abbrev pub opened_axis : SetupRecord → AxisSettings
opened_axis r = record {
  name = r.name;
  max_velocity = r.max_velocity;
  max_acceleration = r.max_acceleration;
  left = r.left;
  right = r.right;
  own = record { velocity = r.max_velocity; acceleration = r.max_acceleration; deceleration = r.max_acceleration };
  digits = 4;
}

-- what stands where there is no axis
abbrev pub no_axis : AxisSettings
no_axis = record { name = []; max_velocity = 0; max_acceleration = 0; left = pos 0; right = pos 0; own = no_profile; digits = 0 }

-- the stage name without the zero bytes behind it
abbrev pub name_text : AxisSettings → List ℕ
name_text a = take (text_length a.name) a.name

-- no axis shows more than 6 digits
abbrev pub short : List AxisSettings → Bool
short axes = list_all (λ a. nat_le a.digits 6) axes

-- another own profile, and the rest kept
abbrev pub with_own : Profile → AxisSettings → AxisSettings
with_own p a = record { name = a.name; max_velocity = a.max_velocity; max_acceleration = a.max_acceleration; left = a.left; right = a.right; own = p; digits = a.digits }

-- another limit or number of digits, and the rest kept
abbrev pub with_left : ℤ → AxisSettings → AxisSettings
with_left z a = record { name = a.name; max_velocity = a.max_velocity; max_acceleration = a.max_acceleration; left = z; right = a.right; own = a.own; digits = a.digits }

abbrev pub with_right : ℤ → AxisSettings → AxisSettings
with_right z a = record { name = a.name; max_velocity = a.max_velocity; max_acceleration = a.max_acceleration; left = a.left; right = z; own = a.own; digits = a.digits }

abbrev pub with_digits : ℕ → AxisSettings → AxisSettings
with_digits n a = record { name = a.name; max_velocity = a.max_velocity; max_acceleration = a.max_acceleration; left = a.left; right = a.right; own = a.own; digits = n }

-- the own profile of an axis, counted from 1
abbrev pub own_of : List AxisSettings → ℕ → Profile
own_of axes n = (row_or no_axis n axes).own

-- the first profile of a group: the smallest of the members' own
abbrev pub smallest_own : List AxisSettings → List ℕ → Profile
smallest_own axes [] = no_profile
smallest_own axes (m ∷ ms) = least (own_of axes m) (map (own_of axes) ms)
