use Rattle.std.proofs.Common.{Ok, rules}
use Rattle.drive.proofs.Waits.{arrives}
use Rattle.drive.proofs.waiting.settle.Goals as goal

pub returns-then-branch-clause-arrives : goal.returns-then-branch-clause-arrives
returns-then-branch-clause-arrives g c =
    arrives c.args.axis c.args.limit (g.D.Drive.axes c.args.drive.now) (g.D.Drive.axes c.loop-ticks.drive) (Ok c.loop-ticks.ticks) (g.met.D.Drive.sound c.args.drive.now) (search rules)

pub returns-clause-arrives : goal.returns-clause-arrives
returns-clause-arrives g c =
    arrives c.args.axis c.args.limit (g.D.Drive.axes c.args.drive.now) (g.D.Drive.axes c.loop-ticks.drive) (Ok c.args.limit) (g.met.D.Drive.sound c.args.drive.now) (search rules)
