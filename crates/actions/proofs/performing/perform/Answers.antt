use Rattle.std.proofs.Common.{sym}
use Rattle.command.specs.Views.{said}
use Rattle.actions.proofs.Fitted.{accepted_fits}
use Rattle.actions.proofs.performing.perform.Goals as goal

pub act-requires : goal.act-requires
act-requires g c =
    accepted_fits c.args.desk.now (g.D.Drive.axes c.args.drive.now) c.in-Some.m (said c.args.command.now) c.settings_fit.ensures (g.met.D.Drive.sound c.args.drive.now) c.requires c.in-Some.is (sym c.if-not-asks.ensures)
