use Rattle.std.proofs.Common.{◌≡◌, ◌-◌, Bool}
use Rattle.rules.specs.World.{Core, core_of}
use Rattle.rules.specs.Deeds.{wait}
use Rattle.motion.specs.Goals.{Tests}
use Rattle.motion.proofs.waiting.wait.Given as goal

-- what is left to do leads to the same end
abbrev pub invariant-loop : goal.invariant-loop
invariant-loop g l =
    (done : Core → Bool) → Tests (g.D.Drive.axes) (goal.F-post g l.reached) done →
    let now' = core_of l.desk (g.D.Drive.axes l.drive) in
    let first = core_of l.initial.desk (g.D.Drive.axes l.initial.drive) in
    (wait (l.most - l.counter) (done now') done now').core ≡ (wait l.most (done first) done first).core
