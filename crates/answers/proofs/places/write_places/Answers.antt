use Rattle.answers.proofs.Placed.{places_list}
use Rattle.answers.proofs.places.write_places.Goals as goal

pub returns-clause-short : goal.returns-clause-short
returns-clause-short g c = places_list c.args.view.desk.now (g.D.Drive.axes c.args.view.drive.now) c.args.axes.now (g.met.D.Drive.sound c.args.view.drive.now)
