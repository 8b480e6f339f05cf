-- What a group is. Assumes nothing.
use Rattle.std.specs.Prelude.{ℕ, Bool, false, cond, ◌||◌, List, [], ◌∷◌, length, ℤ, Some, None, Option, ◌==◌, nat_le}
use Rattle.drive.specs.declared.profile.Profile.{Profile}
use Rattle.fixed.specs.Lists.{held}
use Rattle.queue.specs.Waypoints.{waypoints}
use Rattle.groups.specs.declared.group.Group.{Group}
use Rattle.groups.specs.declared.members.Members.{Members}
use Rattle.groups.specs.Profiles.{no_profile}

-- members by their axis numbers, in the order named; the profile of the group's starts; the waypoints that wait, the first to be started first
pub record GroupModel : Type 0 where
  pub members : List ℕ
  pub profile : Profile
  pub waypoints : List (List ℤ)

abbrev pub members_of : Members → List ℕ
members_of m = held m.list

-- 12 members at most
abbrev pub members_from : List ℕ → Option (List ℕ)
members_from ms = cond (nat_le (length ms) 12) (Some ms) None

abbrev pub listed : Option Members → Option (List ℕ)
listed (Some m) = Some (members_of m)
listed None = None

abbrev pub group_model : Group → GroupModel
group_model g = record { members = members_of g.members; profile = g.profile; waypoints = waypoints g.route }

-- a group without members is free
abbrev pub free_group : GroupModel
free_group = record { members = []; profile = no_profile; waypoints = [] }

-- another profile, other waypoints
abbrev pub with_profile : (Profile → Profile) → GroupModel → GroupModel
with_profile f g = record { members = g.members; profile = f g.profile; waypoints = g.waypoints }

abbrev pub with_waypoints : (List (List ℤ) → List (List ℤ)) → GroupModel → GroupModel
with_waypoints f g = record { members = g.members; profile = g.profile; waypoints = f g.waypoints }

-- the axis is among the members
abbrev pub has : ℕ → List ℕ → Bool
has axis [] = false
has axis (m ∷ ms) = m == axis || has axis ms
