use Rattle.std.proofs.Common.{◌≡◌, ℕ, map, drop}
use Rattle.drive.specs.Calls.{Told, replay}
use Rattle.motion.specs.Orders.{Tells}
use Rattle.motion.proofs.telling.tell_all.Given as goal

-- what is left to do leads to the same end
abbrev pub invariant-loop-axis : goal.invariant-loop-axis
invariant-loop-axis g l =
    (told : ℕ → Told) → Tells (g.D.Drive.axes) (goal.F-post g l.call) told →
    replay (map told (drop l.axis-index l.members)) (g.D.Drive.axes l.drive) ≡ replay (map told l.members) (g.D.Drive.axes l.initial.drive)
