-- What the console keeps and moves. Assumes nothing.
use Rattle.std.specs.Prelude.{ℕ, zero, suc, Bool, false, ◌||◌, List, [], ◌∷◌, length, pos}
use Rattle.drive.specs.Model.{Axis, at_rest}
use Rattle.queue.specs.declared.error_entry.ErrorEntry.{ErrorEntry}
use Rattle.queue.specs.Errors.{entries}
use Rattle.groups.specs.Groups.{GroupModel, has}
use Rattle.groups.specs.Profiles.{no_profile}
use Rattle.desk.specs.declared.axis_settings.AxisSettings.{AxisSettings}
use Rattle.desk.specs.Tables.{row_or}
use Rattle.desk.specs.Axes.{no_axis}
use Rattle.desk.specs.declared.desk_state.Desk.{Desk}
use Rattle.desk.specs.declared.state.State.{State}
use Rattle.desk.specs.Desks.{DeskModel, model_of, group_at}

-- the desk and the drive's axes: all that commands are judged by
pub record Core : Type 0 where
  pub desk : DeskModel
  pub drive : List Axis

-- the same with the errors that wait, the oldest first
pub record World : Type 0 where
  pub core : Core
  pub errors : List ErrorEntry

-- what a desk, or all that the console keeps, is over a drive
abbrev pub core_of : Desk → List Axis → Core
core_of d axes = record { desk = model_of d; drive = axes }

abbrev pub world_of : State → List Axis → World
world_of s axes = record { core = core_of s.desk axes; errors = entries s.errors }

-- the numbers from 1 to n
abbrev pub numbers_from : ℕ → ℕ → List ℕ
numbers_from k zero = []
numbers_from k (suc n) = k ∷ numbers_from (suc k) n

abbrev pub numbers : ℕ → List ℕ
numbers n = numbers_from 1 n

-- how many axes and groups there are
abbrev pub axis_count : Core → ℕ
axis_count k = length k.desk.axes

abbrev pub group_count : Core → ℕ
group_count k = length k.desk.groups

-- the settings of the axis n
abbrev pub settings : Core → ℕ → AxisSettings
settings k n = row_or no_axis n k.desk.axes

-- the group n
abbrev pub group : Core → ℕ → GroupModel
group k n = group_at n k.desk

-- the members of the group n, in the order named
abbrev pub members : Core → ℕ → List ℕ
members k n = (group k n).members

-- what stands where the drive has no axis
abbrev pub no_drive_axis : Axis
no_drive_axis = record { powered = false; position = pos 0; target = pos 0; profile = no_profile; reach = 0; travel = λ p t q. p }

-- the drive's axis n
abbrev pub axis_at : Core → ℕ → Axis
axis_at k n = row_or no_drive_axis n k.drive

-- the axis n rests
abbrev pub resting : Core → ℕ → Bool
resting k n = at_rest (axis_at k n)

-- the axis n has power
abbrev pub powered : Core → ℕ → Bool
powered k n = (axis_at k n).powered

-- the axis n is a member of a group
abbrev pub taken_groups : ℕ → List GroupModel → Bool
taken_groups n [] = false
taken_groups n (g ∷ gs) = has n g.members || taken_groups n gs

abbrev pub grouped : Core → ℕ → Bool
grouped k n = taken_groups n k.desk.groups

-- the core with another desk, or another drive
abbrev pub with_desk : DeskModel → Core → Core
with_desk d k = record { desk = d; drive = k.drive }

abbrev pub with_drive : List Axis → Core → Core
with_drive axes k = record { desk = k.desk; drive = axes }
