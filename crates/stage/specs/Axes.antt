-- What an axis means that keeps its positions as numbers of some type. Assumes nothing.
use Rattle.std.specs.Prelude.{ℤ}
use Rattle.drive.specs.declared.profile.Profile.{Profile}
use Rattle.drive.specs.Model.{Axis}
use Rattle.stage.specs.declared.coordinate.Coordinate.{Ghosts}
use Rattle.stage.specs.declared.axis.SingleAxis.{SingleAxis}

abbrev pub axis_of : {P R : Type 0} {p : Ghosts P} → (R → ℤ → ℤ → Profile → ℤ) → SingleAxis P R p → Axis
axis_of {p = p} travel a =
    record {
      powered = a.powered;
      position = p.whole a.position;
      target = p.whole a.target;
      profile = a.profile;
      reach = a.reach;
      travel = travel a.rule;
    }
