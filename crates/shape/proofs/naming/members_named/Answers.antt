use Rattle.std.proofs.Common.{[], ap, ◌∙◌}
use Rattle.groups.specs.Groups.{free_group}
use Rattle.command.specs.Views.{said}
use Rattle.desk.specs.Desks.{model_of, group_at}
use Rattle.rules.specs.World.{core_of}
use Rattle.rules.specs.Refusals.{group_named}
use Rattle.asked.proofs.Stands.{row_capped, few_groups}
use Rattle.shape.proofs.naming.members_named.Goals as goal

pub returns : goal.returns
returns c =
    let d = c.args.desk.now in
    let row = row_capped free_group (group_named (core_of d []) (said c.args.command.now)) (model_of d).groups (few_groups d) in
    c.members.ensures ∙ (ap (λ n. (group_at n (model_of d)).members) c.group_named.ensures ∙ ap (λ g. g.members) row)
