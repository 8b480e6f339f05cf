-- What a drive means: a list of axes, numbered from 1, and what each of the drive's functions answers and changes. Assumes nothing.
use Rattle.std.specs.Prelude.{◌≡◌, ℕ, zero, suc, ◌≤◌, Bool, true, false, cond, ◌&&◌, List, [], ◌∷◌, map, length, ℤ, ◌≤ℤ◌, ◌<ℤ◌, Ok, Err, Result, int_le, nat_le, unsigned_abs}
use Rattle.std.specs.List.{AllByRecursion}
use Rattle.drive.specs.declared.profile.Profile.{Profile}
use Rattle.drive.specs.declared.refusal.DriveRefusal.{DriveRefusal}
use Rattle.drive.specs.declared.refusal.DriveRefusal.TheVariants.{NoSuchAxis, PowerOff, Moving, OutOfReach}

-- One axis. Positions are whole micro-units. The profile is that of the latest start, all 0 before the first.
-- The rule of travel gives the new position of a tick from position, target and profile.
pub record Axis : Type 0 where
  pub powered : Bool
  pub position : ℤ
  pub target : ℤ
  pub profile : Profile
  pub reach : ℕ
  pub travel : ℤ → ℤ → Profile → ℤ

-- ---- what holds of every drive

-- r is a fair new position on the way from p to t: between them, both ends counted, and nearer to t by at least 1 where they differ
pub record Fair (p r t : ℤ) : Type 0 where
  pub up : p ≤ℤ t → (p ≤ℤ r) × (r ≤ℤ t)
  pub down : t ≤ℤ p → (t ≤ℤ r) × (r ≤ℤ p)
  pub nearer_up : p <ℤ t → p <ℤ r
  pub nearer_down : t <ℤ p → r <ℤ p

pub record SoundAxis (a : Axis) : Type 0 where
  pub some_reach : 1 ≤ a.reach
  pub most_reach : a.reach ≤ 2000000000
  pub position_in : unsigned_abs a.position ≤ a.reach
  pub target_in : unsigned_abs a.target ≤ a.reach
  pub unpowered : a.powered ≡ false → a.target ≡ a.position
  pub fair : (p t : ℤ) (q : Profile) → unsigned_abs p ≤ a.reach → unsigned_abs t ≤ a.reach → Fair p (a.travel p t q) t

-- 2 to 12 axes, each of them sound
pub record Sound (axes : List Axis) : Type 0 where
  pub least : 2 ≤ length axes
  pub most : length axes ≤ 12
  pub each : AllByRecursion SoundAxis axes

-- ---- questions

-- what f says of the axis at the index i
abbrev pub ask : {R : Type 0} → (Axis → R) → ℕ → List Axis → Result R DriveRefusal
ask f i [] = Err NoSuchAxis
ask f zero (a ∷ more) = Ok (f a)
ask f (suc i) (a ∷ more) = ask f i more

-- what f says of the axis numbered n
abbrev pub ask_axis : {R : Type 0} → (Axis → R) → ℕ → List Axis → Result R DriveRefusal
ask_axis f zero axes = Err NoSuchAxis
ask_axis f (suc i) axes = ask f i axes

-- ---- changes

-- a change of one axis: the answer, and the axis after it
abbrev pub Change : Type 0
Change = Axis → Result Unit DriveRefusal × Axis

-- f changes the axis at the index i, and the others are kept
abbrev pub at : Change → ℕ → List Axis → Result Unit DriveRefusal × List Axis
at f i [] = (Err NoSuchAxis, [])
at f zero (a ∷ more) = ((f a).0, (f a).1 ∷ more)
at f (suc i) (a ∷ more) = ((at f i more).0, a ∷ (at f i more).1)

-- f changes the axis numbered n, and the others are kept
abbrev pub at_axis : Change → ℕ → List Axis → Result Unit DriveRefusal × List Axis
at_axis f zero axes = (Err NoSuchAxis, axes)
at_axis f (suc i) axes = at f i axes

-- the axis with another power, position, target and profile; its reach and its rule of travel never change
abbrev pub with_state : Bool → ℤ → ℤ → Profile → Axis → Axis
with_state w p t q a = record { powered = w; position = p; target = t; profile = q; reach = a.reach; travel = a.travel }

-- whether two positions are the same: neither is above the other
abbrev pub same : ℤ → ℤ → Bool
same p t = int_le p t && int_le t p

-- an axis rests when its position is its target
abbrev pub at_rest : Axis → Bool
at_rest a = same a.position a.target

-- power on sets power
abbrev pub power_on_axis : Change
power_on_axis a = (Ok tt, with_state true a.position a.target a.profile a)

-- power off clears it, and makes the target the position
abbrev pub power_off_axis : Change
power_off_axis a = (Ok tt, with_state false a.position a.position a.profile a)

-- a start sets target and profile; it is refused without power, then where the target passes the reach
abbrev pub start_axis : ℤ → Profile → Change
start_axis t q a =
    cond a.powered
    (cond (nat_le (unsigned_abs t) a.reach) (Ok tt, with_state a.powered a.position t q a) (Err OutOfReach, a))
    (Err PowerOff, a)

-- stop makes the target the position
abbrev pub stop_axis : Change
stop_axis a = (Ok tt, with_state a.powered a.position a.position a.profile a)

-- position and target become p; it is refused while the axis moves, then where p passes the reach
abbrev pub set_position_axis : ℤ → Change
set_position_axis p a =
    cond (at_rest a)
    (cond (nat_le (unsigned_abs p) a.reach) (Ok tt, with_state a.powered p p a.profile a) (Err OutOfReach, a))
    (Err Moving, a)

-- a tick gives the axis its new position
abbrev pub tick_axis : Axis → Axis
tick_axis a = with_state a.powered (a.travel a.position a.target a.profile) a.target a.profile a

-- a tick gives every axis its new position
abbrev pub tick_axes : List Axis → List Axis
tick_axes axes = map tick_axis axes
