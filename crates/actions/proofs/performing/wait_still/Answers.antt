use Rattle.std.proofs.Common.{◌≡◌, false, eqb, sym, ap, ◌∙◌, arith}
use Rattle.std.proofs.lemmas.Bool.Decides.{nat_tests}
use Rattle.rules.specs.World.{core_of}
use Rattle.rules.specs.Deeds.{wait_for, still}
use Rattle.actions.proofs.performing.wait_still.Goals as goal

pub returns-then-axis-eq0 : goal.returns-then-axis-eq0
returns-then-axis-eq0 g c =
    let k = core_of c.args.desk.now (g.D.Drive.axes c.args.drive.now) in
    c.wait_every.ensures ∙ ap (λ n. (wait_for (still (eqb n 0) n) k).core) (sym c.if-axis-eq0.true)

pub returns-else-axis-eq0 : goal.returns-else-axis-eq0
returns-else-axis-eq0 g c =
    let k = core_of c.args.desk.now (g.D.Drive.axes c.args.drive.now) in
    let e : eqb c.args.axis 0 ≡ false = grind (arith, nat_tests) in
    c.wait_axis.ensures ∙ ap (λ b. (wait_for (still b c.args.axis) k).core) (sym e)
