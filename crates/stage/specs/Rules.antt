-- The rule of travel of an axis in whole numbers. Assumes nothing.
use Rattle.std.specs.Prelude.{ℤ}
use Rattle.drive.specs.declared.profile.Profile.{Profile}
use Rattle.stage.specs.declared.rule.Rule.{Rule}
use Rattle.stage.specs.declared.rule.Rule.TheVariants.{Instant, Stepping}
use Rattle.stage.specs.Travel.{instant_travel, stepping_travel}

abbrev pub travel_by : Rule → ℤ → ℤ → Profile → ℤ
travel_by Instant = instant_travel
travel_by Stepping = stepping_travel
