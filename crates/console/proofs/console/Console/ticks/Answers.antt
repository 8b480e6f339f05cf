use Rattle.std.proofs.Common.{sym, subst}
use Rattle.rules.specs.World.{Core, core_of}
use Rattle.answers.specs.Facts.{FewMembers}
use Rattle.engine.proofs.Sizes.{few_beats}
use Rattle.console.proofs.console.Console.ticks.Goals as goal

pub invariant_of-self : goal.invariant_of-self
invariant_of-self g c =
    let few = few_beats c.args.count (core_of c.args.self.now.state.desk (g.D.Drive.axes c.args.drive.now)) c.args.self.now.few in
    record { few = subst (λ (k : Core). FewMembers k.desk) (sym c.beats.ensures) few }
