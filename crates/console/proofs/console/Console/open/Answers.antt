use Rattle.rules.specs.World.{world_of}
use Rattle.console.proofs.Lawfully.{opened_lawfully}
use Rattle.console.proofs.console.Console.open.Goals as goal

pub returns : goal.returns
returns g c =
    record {
      opens = c.set_up.ensures.opens;
      kept = c.set_up.ensures.kept;
      lawful = opened_lawfully (world_of c.args.self.now.state (g.D.Drive.axes c.args.drive.now)) c.args.records.now c.set_up.result _ (g.met.D.Drive.sound c.args.drive.now) c.set_up.ensures.opens;
    }
