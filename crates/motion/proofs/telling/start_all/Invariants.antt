use Rattle.std.proofs.Common.{◌≡◌, length, drop}
use Rattle.drive.specs.Calls.{replay}
use Rattle.rules.specs.Deeds.{starts}
use Rattle.motion.proofs.telling.start_all.Given as goal

-- what is left to do leads to the same end
abbrev pub invariant-loop-axis : goal.invariant-loop-axis
invariant-loop-axis g l =
    replay (starts l.profile (drop (length l.yielded) l.members) (drop (length l.yielded) l.positions)) (g.D.Drive.axes l.drive)
    ≡ replay (starts l.profile l.members l.positions) (g.D.Drive.axes l.initial.drive)
