use Rattle.std.proofs.Common.{ap, ◌∙◌}
use Rattle.command.specs.Views.{said}
use Rattle.rules.specs.World.{group}
use Rattle.rules.specs.Refusals.{group_named}
use Rattle.asked.specs.Seen.{seen}
use Rattle.answers.proofs.Counts.{group_on_desk, named_few}
use Rattle.answers.proofs.found.group_found.Goals as goal

pub returns-clause-on_desk : goal.returns-clause-on_desk
returns-clause-on_desk g c =
    let k = seen g.D.Drive.axes c.args.case.now.view in
    ap (group k) c.group_named.ensures ∙ group_on_desk c.args.case.now.view.desk.now (group_named k (said c.args.case.now.command.now))

pub returns-clause-few : goal.returns-clause-few
returns-clause-few g c = named_few c.args.case.now.view.desk.now (g.D.Drive.axes c.args.case.now.view.drive.now) (said c.args.case.now.command.now)
