-- What is known of a group that was found in the desk's list: how it, and a change of it, shows in the model. Assumes nothing.
use Rattle.std.specs.Prelude.{◌≡◌, ℕ, ◌-◌, ◌≤◌, true, false, map, slice_set}
use Rattle.fixed.specs.Lists.{held}
use Rattle.queue.specs.Waypoints.{waypoints}
use Rattle.desk.specs.declared.desk_state.Desk.{Desk}
use Rattle.groups.specs.declared.group.Group.{Group}
use Rattle.desk.specs.Tables.{there, alter}
use Rattle.groups.specs.Groups.{GroupModel, group_model, members_of, free_group}
use Rattle.desk.specs.Desks.{model_of, group_at}

pub record Found (d : Desk) (n : ℕ) (g : Group) : Type 0 where
  pub is_there : there n (model_of d).groups ≡ true
  pub low : 1 ≤ n
  pub is : group_at n (model_of d) ≡ group_model g
  pub members : (group_at n (model_of d)).members ≡ members_of g.members
  pub profile : (group_at n (model_of d)).profile ≡ g.profile
  pub waiting : (group_at n (model_of d)).waypoints ≡ waypoints g.route
  -- a change of the group, and a group that is stored in its place
  pub change : (f : GroupModel → GroupModel) → alter f n (model_of d).groups ≡ slice_set (model_of d).groups (n - 1) (f (group_at n (model_of d)))
  pub stored : (y : Group) → map group_model (slice_set (held d.groups) (n - 1) y) ≡ slice_set (model_of d).groups (n - 1) (group_model y)

-- and of one that is not there
pub record Missing (d : Desk) (n : ℕ) : Type 0 where
  pub not_there : there n (model_of d).groups ≡ false
  pub free : group_at n (model_of d) ≡ free_group
  pub change : (f : GroupModel → GroupModel) → alter f n (model_of d).groups ≡ (model_of d).groups
