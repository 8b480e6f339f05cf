use Rattle.std.proofs.Common.{ap, ◌∙◌}
use Rattle.command.specs.Views.{said}
use Rattle.rules.specs.World.{settings, axis_at}
use Rattle.rules.specs.Refusals.{axis_named}
use Rattle.asked.specs.Seen.{seen}
use Rattle.answers.proofs.Counts.{axis_on_desk, axis_on_drive}
use Rattle.answers.proofs.found.axis_found.Goals as goal

pub returns-clause-on_desk : goal.returns-clause-on_desk
returns-clause-on_desk g c =
    ap (settings (seen g.D.Drive.axes c.args.case.now.view)) c.axis_named.ensures ∙ axis_on_desk c.args.case.now.view.desk.now (axis_named (said c.args.case.now.command.now))

pub returns-clause-on_drive : goal.returns-clause-on_drive
returns-clause-on_drive g c =
    let drive = c.args.case.now.view.drive.now in
    ap (axis_at (seen g.D.Drive.axes c.args.case.now.view)) c.axis_named.ensures ∙ axis_on_drive (g.D.Drive.axes drive) (axis_named (said c.args.case.now.command.now)) (g.met.D.Drive.sound drive)
