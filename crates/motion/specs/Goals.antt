-- What a test of desk and drive finds out. Assumes nothing.
use Rattle.std.specs.Prelude.{◌≡◌, Bool, List}
use Rattle.std.specs.Borrow.{Bor}
use Rattle.drive.specs.Model.{Axis}
use Rattle.rules.specs.World.{Core, core_of}
use Rattle.desk.specs.declared.desk_state.Desk.{Desk}

-- calls that answer whether the goal is reached; `axes` says what the drive means
abbrev pub Tests : {D : Type 0} → (D → List Axis) → (Bor Desk → Bor D → Bool → Type 0) → (Core → Bool) → Type 0
Tests {D} axes may goal = (d : Bor Desk) (e : Bor D) (r : Bool) → may d e r → r ≡ goal (core_of d.now (axes e.now))
