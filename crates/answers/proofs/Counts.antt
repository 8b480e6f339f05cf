-- There are fewer axes and groups than 1000, where numbers are capped, and few members of a group that a command names.
use Rattle.std.proofs.Common.{◌≡◌, ℕ, ◌≤◌, cond, eqb, List, length, is_some, Some, None, arith}
use Rattle.std.proofs.lemmas.Bool.{cond_both, eqb-true}
use Rattle.command.specs.Commands.{Command, capped, prefix_number}
use Rattle.drive.specs.Model.{Axis, Sound}
use Rattle.groups.specs.Groups.{free_group}
use Rattle.desk.specs.declared.desk_state.Desk.{Desk}
use Rattle.desk.specs.Tables.{row_or}
use Rattle.desk.specs.Axes.{no_axis}
use Rattle.desk.specs.Desks.{model_of}
use Rattle.rules.specs.World.{core_of, group_count, members, no_drive_axis}
use Rattle.rules.specs.Refusals.{has_prefix, number_or, group_named}
use Rattle.desk.proofs.Founds.{groups_length}
use Rattle.asked.proofs.Stands.{row_capped, few_axes, few_groups, twelve_axes}
use Rattle.answers.specs.Facts.{FewMembers}

-- a capped number finds what the number itself finds
pub axis_on_desk : (d : Desk) (n : ℕ) → row_or no_axis (capped n) (model_of d).axes ≡ row_or no_axis n (model_of d).axes
axis_on_desk d n = row_capped no_axis n (model_of d).axes (few_axes d)

pub axis_on_drive : (axes : List Axis) (n : ℕ) → Sound axes → row_or no_drive_axis (capped n) axes ≡ row_or no_drive_axis n axes
axis_on_drive axes n s = row_capped no_drive_axis n axes (omega (arith, s.most))

pub group_on_desk : (d : Desk) (n : ℕ) → row_or free_group (capped n) (model_of d).groups ≡ row_or free_group n (model_of d).groups
group_on_desk d n = row_capped free_group n (model_of d).groups (few_groups d)

-- where no group has more members than there are axes, a command without a prefix names a group of at most 3, or none
pub named_few : (d : Desk) (axes : List Axis) (c : Command) → FewMembers (model_of d) → length (members (core_of d axes) (group_named (core_of d axes) c)) ≤ cond (has_prefix c) 12 3
named_few d axes c few =
    elim (prefix_number c) as (λ o. length (members (core_of d axes) (number_or (cond (eqb (group_count (core_of d axes)) 1) 1 0) o)) ≤ cond (is_some o) 12 3) [
      | Some n ↦ omega (arith, few n, twelve_axes d)
      | None ↦ cond_both (eqb (group_count (core_of d axes)) 1) 1 0 (λ n. length (members (core_of d axes) n) ≤ 3)
          (λ e. omega (arith, few 1, twelve_axes d, groups_length d, eqb-true (group_count (core_of d axes)) 1 e))
          (λ e. omega arith)
    ]
