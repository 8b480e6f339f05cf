use Rattle.std.proofs.Common.{length, ap, ◌∙◌}
use Rattle.groups.specs.Groups.{free_group}
use Rattle.command.specs.Views.{said}
use Rattle.desk.specs.Desks.{model_of, group_at}
use Rattle.asked.specs.Seen.{seen}
use Rattle.rules.specs.Refusals.{group_named}
use Rattle.asked.proofs.Stands.{row_capped, few_groups}
use Rattle.checks.proofs.moves.waypoints_named.Goals as goal

pub returns : goal.returns
returns g c =
    let d = c.args.case.now.view.desk.now in
    let row = row_capped free_group (group_named (seen g.D.Drive.axes c.args.case.now.view) (said c.args.case.now.command.now)) (model_of d).groups (few_groups d) in
    c.waypoint_count.ensures ∙ (ap (λ n. length (group_at n (model_of d)).waypoints) c.group_named.ensures ∙ ap (λ g. length g.waypoints) row)
