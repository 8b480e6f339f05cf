use Rattle.std.proofs.Common.{◌*◌, ◌≤◌, length, sym, ap, ◌∙◌, subst, arith}
use Rattle.std.specs.List.{sum_by}
use Rattle.number.specs.Writer.{wrote}
use Rattle.number.proofs.Wrote.{wrote_nothing}
use Rattle.command.specs.Commands.{commands_of}
use Rattle.command.specs.Laws.{taken}
use Rattle.command.specs.Views.{said, to_come}
use Rattle.desk.specs.Desks.{model_of}
use Rattle.rules.specs.World.{world_of}
use Rattle.rules.specs.Steps.{run_commands, outcomes, all_replies}
use Rattle.answers.specs.Facts.{FewMembers}
use Rattle.engine.proofs.Sizes.{few_step}
use Rattle.engine.proofs.Turns.{whole_written, run_on, reply_on, bound_on}
use Rattle.engine.proofs.line_run.run_each.Goals as goal

pub loop-command-preserved : goal.loop-command-preserved
loop-command-preserved g c =
    let w = world_of c.loop-command.state (g.D.Drive.axes c.loop-command.drive) in
    let v = world_of c.execute.new.state (g.D.Drive.axes c.execute.new.drive) in
    let cs = to_come c.loop-command.command-iterator in
    let s = said c.in-Some.command in
    let more = to_come c.next.new.self in
    let next = c.in-Some.ensures.steps in
    let did = c.execute.ensures.world in (
      run_on w v cs s more c.loop-command.invariant.0 next did,
      reply_on w v cs s more c.loop-command.out c.execute.new.out c.loop-command.invariant.1 next did c.execute.ensures.reply,
      (λ few.
          let now = c.loop-command.invariant.2 few in (
            subst (λ x. FewMembers x.core.desk) (sym did) (few_step w s now.0),
            bound_on w v cs s more _ (40 * sum_by taken (commands_of c.args.line.now)) now.1 next did (c.execute.ensures.short now.0),
          )),
    )

pub returns : goal.returns
returns g c =
    let w = world_of c.loop-command.state (g.D.Drive.axes c.loop-command.drive) in
    let none = c.in-None.ensures.steps.0 in
    record {
      world = sym (ap (run_commands w) none) ∙ c.loop-command.invariant.0;
      reply = sym (wrote_nothing c.loop-command.out) ∙ (sym (ap (λ cs. wrote c.loop-command.out (all_replies (outcomes w cs))) none) ∙ c.loop-command.invariant.1);
      few = λ few. (c.loop-command.invariant.2 few).0;
      short = λ few. omega (arith, (c.loop-command.invariant.2 few).1, ap (λ cs. length (all_replies (outcomes w cs))) none, c.of-command-items.ensures.sizes);
    }
