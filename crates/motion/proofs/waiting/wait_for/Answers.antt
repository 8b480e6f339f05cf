use Rattle.std.proofs.Common.{ap, ◌∙◌}
use Rattle.rules.specs.World.{core_of}
use Rattle.rules.specs.Deeds.{wait}
use Rattle.motion.proofs.waiting.wait_for.Goals as goal

pub returns : goal.returns
returns g c = λ done tests.
    let k = core_of c.args.desk.now (g.D.Drive.axes c.args.drive.now) in
    c.wait.ensures done tests ∙ ap (λ n. (wait n (done k) done k).core) c.longest_wait.ensures
