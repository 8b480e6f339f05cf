use Rattle.std.proofs.Common.{◌≡◌, map, take}
use Rattle.fixed.specs.Lists.{held}
use Rattle.setup.specs.Setups.{records_in}
use Rattle.desk.specs.Axes.{opened_axis}
use Rattle.desk.proofs.opening.axis_table.Given as goal

abbrev pub invariant-loop-record : goal.invariant-loop-record
invariant-loop-record l = held l.axes ≡ map opened_axis (take l.record-index (records_in l.setup))
