use Rattle.drive.proofs.Lasts.{lasts}
use Rattle.drive.proofs.laws.lasting.Goals as goal

pub returns : goal.returns
returns g c = lasts (g.D.Drive.axes c.args.drive.now) (g.met.D.Drive.sound c.args.drive.now)
