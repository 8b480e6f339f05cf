use Rattle.std.proofs.Common.{[], ap, ◌∙◌, arith}
use Rattle.groups.specs.Groups.{with_waypoints}
use Rattle.desk.specs.Tables.{alter}
use Rattle.desk.specs.Desks.{model_of}
use Rattle.actions.proofs.Emptied.{alter_next, alter_last}
use Rattle.actions.proofs.grouping.empty_all.Goals as goal

pub loop-number-preserved : goal.loop-number-preserved
loop-number-preserved c =
    let gs = (model_of c.args.desk.now).groups in (
      ap (λ d. d.axes) c.empty_waypoints.ensures ∙ c.loop-number.invariant.0,
      ap (λ d. d.groups) c.empty_waypoints.ensures
          ∙ ap (alter (with_waypoints (λ ws. [])) c.loop-number.number) c.loop-number.invariant.1
          ∙ alter_next (with_waypoints (λ ws. [])) c.loop-number.number gs (omega arith) (omega arith),
    )

pub returns-2 : goal.returns-2
returns-2 c =
    let gs = (model_of c.args.desk.now).groups in
    let e = ap (λ d. d.axes) c.empty_waypoints.ensures ∙ c.loop-number.invariant.0 in
    let f =
    ap (λ d. d.groups) c.empty_waypoints.ensures
    ∙ ap (alter (with_waypoints (λ ws. [])) c.loop-number.number) c.loop-number.invariant.1
    ∙ alter_last (with_waypoints (λ ws. [])) c.loop-number.number gs (omega arith) (omega arith) in
    cc
