-- What a drive means that is chosen, and mounted reversed at three axes. Assumes nothing.
use Rattle.std.specs.Prelude.{ℕ, ℤ, List, replicate}
use Rattle.drive.specs.Mirror.{mirrored}
use Rattle.drive.specs.Model.{Axis}
use Rattle.drive.specs.declared.profile.Profile.{Profile}
use Rattle.drive.specs.declared.reversed.Reversed.{Reversed}
use Rattle.stage.specs.declared.ease.Ease.TheVariants as Eases
use Rattle.stage.specs.Easing.{easing_travel, f64_of}
use Rattle.stage.specs.Stages.{fresh_axis, nearest}
use Rattle.stage.specs.Travel.{instant_travel, stepping_travel}
use Rattle.bank.specs.Banks.{bank_axes}
use Rattle.bank.specs.declared.bank.Bank.{Bank}
use Rattle.marksheet.specs.declared.drive_choice.DriveChoice.{DriveChoice}
use Rattle.marksheet.specs.declared.drive_choice.DriveChoice.TheVariants.{Instant, Stepping, Stride, Share}

-- how the drive that is chosen travels
abbrev pub chosen_travel : DriveChoice → ℤ → ℤ → Profile → ℤ
chosen_travel Instant = instant_travel
chosen_travel Stepping = stepping_travel
chosen_travel (Stride n) = easing_travel (Eases.Stride (f64_of n))
chosen_travel (Share x) = easing_travel (Eases.Share x)

-- so many of its axes, 2 to 12, at rest at 0, each with a reach of 2,000 units
abbrev pub chosen_axes : DriveChoice → ℕ → List Axis
chosen_axes choice count = replicate (nearest 2 12 count) (fresh_axis (chosen_travel choice) 2000000000)

abbrev pub rig_axes : Reversed (Reversed (Reversed Bank)) → List Axis
rig_axes r = mirrored r.axis (mirrored r.below.axis (mirrored r.below.below.axis (bank_axes r.below.below.below)))
