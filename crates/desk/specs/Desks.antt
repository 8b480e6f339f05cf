-- The desk: the settings of the axes and the groups, and what its operations do. Assumes nothing.
use Rattle.std.specs.Prelude.{ℕ, suc, ◌/◌, Bool, true, false, cond, not, ◌&&◌, List, [], ◌∷◌, ◌++◌, map, length, drop, replicate, ℤ, Some, None, Option, ◌==◌, nat_le, nat_lt}
use Rattle.std.specs.List.{list_all, slice_get}
use Rattle.fixed.specs.Lists.{held}
use Rattle.setup.specs.declared.record.SetupRecord.{SetupRecord}
use Rattle.desk.specs.declared.axis_settings.AxisSettings.{AxisSettings}
use Rattle.desk.specs.declared.desk_state.Desk.{Desk}
use Rattle.desk.specs.Tables.{there, row_or, alter}
use Rattle.desk.specs.Axes.{opened_axis, with_own, with_left, with_right, with_digits, smallest_own}
use Rattle.groups.specs.Profiles.{velocity_in, acceleration_in, deceleration_in}
use Rattle.groups.specs.Groups.{GroupModel, group_model, free_group, with_profile, with_waypoints, has}

pub record DeskModel : Type 0 where
  pub axes : List AxisSettings
  pub groups : List GroupModel

-- there are half as many groups as axes
abbrev pub model_of : Desk → DeskModel
model_of d = record { axes = held d.axes; groups = map group_model (held d.groups) }

abbrev pub unopened_desk : DeskModel
unopened_desk = record { axes = []; groups = [] }

-- an axis for each record; all groups free
abbrev pub opened_desk : List SetupRecord → DeskModel
opened_desk rs = record { axes = map opened_axis rs; groups = replicate (length rs / 2) free_group }

-- f changes the settings of the axis n, if there is one
abbrev pub on_axis : (AxisSettings → AxisSettings) → ℕ → DeskModel → Bool × DeskModel
on_axis f n d = cond (there n d.axes) (true, record { axes = alter f n d.axes; groups = d.groups }) (false, d)

abbrev pub velocity_set : ℕ → ℕ → DeskModel → Bool × DeskModel
velocity_set n v d = on_axis (λ a. with_own (velocity_in v a.own) a) n d

abbrev pub acceleration_set : ℕ → ℕ → DeskModel → Bool × DeskModel
acceleration_set n v d = on_axis (λ a. with_own (acceleration_in v a.own) a) n d

abbrev pub deceleration_set : ℕ → ℕ → DeskModel → Bool × DeskModel
deceleration_set n v d = on_axis (λ a. with_own (deceleration_in v a.own) a) n d

abbrev pub left_set : ℕ → ℤ → DeskModel → Bool × DeskModel
left_set n z d = on_axis (with_left z) n d

abbrev pub right_set : ℕ → ℤ → DeskModel → Bool × DeskModel
right_set n z d = on_axis (with_right z) n d

-- 6 digits at most
abbrev pub digits_set : ℕ → ℕ → DeskModel → Bool × DeskModel
digits_set n k d = cond (nat_le k 6) (on_axis (with_digits k) n d) (false, d)

-- the group n; a free one if there is none
abbrev pub group_at : ℕ → DeskModel → GroupModel
group_at n d = row_or free_group n d.groups

-- f changes the group n, if there is one
abbrev pub at_group : (GroupModel → GroupModel) → ℕ → DeskModel → DeskModel
at_group f n d = record { axes = d.axes; groups = alter f n d.groups }

-- the group has members
abbrev pub in_use : ℕ → DeskModel → Bool
in_use n d = nat_lt 0 (length (group_at n d).members)

-- the same for a group that has members; any other is refused
abbrev pub on_group : (GroupModel → GroupModel) → ℕ → DeskModel → Bool × DeskModel
on_group f n d = cond (in_use n d) (true, at_group f n d) (false, d)

abbrev pub group_velocity_set : ℕ → ℕ → DeskModel → Bool × DeskModel
group_velocity_set n v d = on_group (with_profile (velocity_in v)) n d

abbrev pub group_acceleration_set : ℕ → ℕ → DeskModel → Bool × DeskModel
group_acceleration_set n v d = on_group (with_profile (acceleration_in v)) n d

abbrev pub group_deceleration_set : ℕ → ℕ → DeskModel → Bool × DeskModel
group_deceleration_set n v d = on_group (with_profile (deceleration_in v)) n d

-- the members leave, and the waypoints go
abbrev pub dissolved : ℕ → DeskModel → Bool × DeskModel
dissolved n d = on_group (λ g. free_group) n d

-- a waypoint joins the queue: one position for each member, and eight wait at most
abbrev pub waypoint_queued : ℕ → List ℤ → DeskModel → Bool × DeskModel
waypoint_queued n ps d =
    cond (length ps == length (group_at n d).members && nat_lt (length (group_at n d).waypoints) 8) (on_group (with_waypoints (λ ws. ws ++ ps ∷ [])) n d) (false, d)

-- the first waypoint is taken out, if one waits
abbrev pub waypoint_taken : ℕ → DeskModel → Option (List ℤ) × DeskModel
waypoint_taken n d = (slice_get (group_at n d).waypoints 0, at_group (with_waypoints (λ ws. drop 1 ws)) n d)

abbrev pub waypoints_emptied : ℕ → DeskModel → DeskModel
waypoints_emptied n d = at_group (with_waypoints (λ ws. [])) n d

-- 2 to 12 members, each of them an axis
abbrev pub can_join : List ℕ → DeskModel → Bool
can_join ms d = nat_le 2 (length ms) && nat_le (length ms) 12 && list_all (λ m. there m d.axes) ms

-- a free group is formed; its first profile is the smallest of the members' own
abbrev pub formed : ℕ → List ℕ → DeskModel → Bool × DeskModel
formed n ms d =
    cond (there n d.groups && not (in_use n d) && can_join ms d)
    (true, at_group (λ g. record { members = ms; profile = smallest_own d.axes ms; waypoints = [] }) n d)
    (false, d)

-- the first group, from the number k on, that the axis is a member of
abbrev pub first_with : ℕ → ℕ → List GroupModel → Option ℕ
first_with axis k [] = None
first_with axis k (g ∷ gs) = cond (has axis g.members) (Some k) (first_with axis (suc k) gs)

abbrev pub group_of : ℕ → DeskModel → Option ℕ
group_of axis d = first_with axis 1 d.groups
