-- What stands on the desk for the axis of a number. Assumes nothing.
use Rattle.std.specs.Prelude.{◌≡◌, ℕ, ◌≤◌, List, Some, None, Option}
use Rattle.desk.specs.declared.axis_settings.AxisSettings.{AxisSettings}
use Rattle.desk.specs.Tables.{row_or}
use Rattle.desk.specs.Axes.{no_axis}

-- the settings of the axis n, if it is there
abbrev pub SettingsAre : List AxisSettings → ℕ → Option AxisSettings → Type 0
SettingsAre axes n (Some a) = (row_or no_axis n axes ≡ a) × (a.digits ≤ 6)
SettingsAre axes n None = row_or no_axis n axes ≡ no_axis
