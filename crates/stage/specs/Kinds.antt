-- What an axis of any kind means. Assumes nothing.
use Rattle.drive.specs.Model.{Axis}
use Rattle.stage.specs.declared.kind.AxisKind.{AxisKind}
use Rattle.stage.specs.declared.kind.AxisKind.TheVariants.{Whole, Easing}
use Rattle.stage.specs.Axes.{axis_of}
use Rattle.stage.specs.Easing.{easing_travel}
use Rattle.stage.specs.Rules.{travel_by}

abbrev pub kind_axis : AxisKind → Axis
kind_axis (Whole a) = axis_of travel_by a
kind_axis (Easing a) = axis_of easing_travel a
