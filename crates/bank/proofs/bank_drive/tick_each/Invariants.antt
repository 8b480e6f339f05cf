use Rattle.std.proofs.Common.{◌≡◌, ◌++◌, map, take, drop}
use Rattle.drive.specs.Model.{tick_axis}
use Rattle.stage.specs.Kinds.{kind_axis}
use Rattle.bank.proofs.bank_drive.tick_each.Given as goal

-- the axes before the index have ticked, the others not yet
abbrev pub invariant-loop-axis : goal.invariant-loop-axis
invariant-loop-axis l =
    map kind_axis l.axes ≡ map tick_axis (take l.axis-index (map kind_axis l.initial.axes)) ++ drop l.axis-index (map kind_axis l.initial.axes)
