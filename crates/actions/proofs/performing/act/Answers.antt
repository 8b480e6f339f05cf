use Rattle.command.specs.Views.{said}
use Rattle.rules.specs.World.{core_of}
use Rattle.actions.proofs.Acts.{axis_waited, group_waited}
use Rattle.actions.proofs.performing.act.Goals as goal

pub returns-in-Ws : goal.returns-in-Ws
returns-in-Ws g c =
    axis_waited (core_of c.args.desk.now (g.D.Drive.axes c.args.drive.now)) _ c.args.m (said c.args.command.now) c.axis_named-axis.result c.in-Ws.is c.requires c.axis_named-axis.ensures c.wait_still.ensures

pub returns-in-Hw : goal.returns-in-Hw
returns-in-Hw g c =
    group_waited (core_of c.args.desk.now (g.D.Drive.axes c.args.drive.now)) _ c.args.m (said c.args.command.now) c.group_named-group.result c.in-Hw.is c.requires c.group_named-group.ensures c.wait_group.ensures
