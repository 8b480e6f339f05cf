use Rattle.std.proofs.Common.{◌≡◌, ◌-◌}
use Rattle.rules.specs.World.{core_of}
use Rattle.rules.specs.Deeds.{beats}
use Rattle.motion.proofs.beating.beats.Given as goal

-- what is left to do leads to the same end
abbrev pub invariant-loop : goal.invariant-loop
invariant-loop g l =
    (beats (l.n - l.counter) (core_of l.desk (g.D.Drive.axes l.drive))).core ≡ (beats l.n (core_of l.initial.desk (g.D.Drive.axes l.initial.drive))).core
