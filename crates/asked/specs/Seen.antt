-- Desk and drive, looked at together. Assumes nothing.
use Rattle.std.specs.Prelude.{List}
use Rattle.drive.specs.Model.{Axis}
use Rattle.rules.specs.World.{Core, core_of}
use Rattle.asked.specs.declared.view.View.{View}

-- what commands are judged by, where `axes` says what the drive means
abbrev pub seen : {D : Type 0} → (D → List Axis) → View D → Core
seen axes v = core_of v.desk.now (axes v.drive.now)
