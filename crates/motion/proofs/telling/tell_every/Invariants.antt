use Rattle.std.proofs.Common.{◌≡◌, ℕ, ◌+◌, ◌-◌, map}
use Rattle.drive.specs.Calls.{Told, replay}
use Rattle.rules.specs.World.{numbers, numbers_from}
use Rattle.motion.specs.Orders.{Tells}
use Rattle.motion.proofs.telling.tell_every.Given as goal

-- what is left to do leads to the same end
abbrev pub invariant-loop-axis : goal.invariant-loop-axis
invariant-loop-axis g l =
    (told : ℕ → Told) → Tells (g.D.Drive.axes) (goal.F-post g l.call) told →
    replay (map told (numbers_from l.axis (l.count + 1 - l.axis))) (g.D.Drive.axes l.drive) ≡ replay (map told (numbers l.count)) (g.D.Drive.axes l.initial.drive)
