use Rattle.std.proofs.Common.{◌≡◌, ◌+◌, ◌-◌}
use Rattle.rules.specs.World.{core_of, numbers, numbers_from}
use Rattle.rules.specs.Deeds.{advance_all}
use Rattle.motion.proofs.beating.advance_all.Given as goal

-- what is left to do leads to the same end
abbrev pub invariant-loop-group : goal.invariant-loop-group
invariant-loop-group g l =
    (advance_all (numbers_from l.group (l.count + 1 - l.group)) (core_of l.desk (g.D.Drive.axes l.drive))).core
    ≡ (advance_all (numbers l.count) (core_of l.initial.desk (g.D.Drive.axes l.initial.drive))).core
