use Rattle.std.proofs.Common.{◌≡◌, ◌-◌}
use Rattle.drive.specs.Settle.{rests, settling, settled}
use Rattle.drive.proofs.waiting.settle.Given as goal

-- what is left to do leads to the same end
abbrev pub invariant-loop-ticks : goal.invariant-loop-ticks
invariant-loop-ticks g l =
    let axes = g.D.Drive.axes l.drive in
    settling l.ticks (l.limit - l.ticks) (rests l.axis axes) l.axis axes ≡ settled l.axis l.limit (g.D.Drive.axes l.initial.drive)
