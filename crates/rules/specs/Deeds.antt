-- What an accepted command does, and what the drive is told on the way. Assumes nothing.
use Rattle.std.specs.Prelude.{ℕ, zero, suc, Bool, true, false, not, ◌&&◌, ◌||◌, List, [], ◌∷◌, ◌++◌, map, length, ℤ, ◌+ℤ◌, Some, None, Option, nat_lt, unsigned_abs}
use Rattle.std.specs.List.{list_all}
use Rattle.drive.specs.declared.profile.Profile.{Profile}
use Rattle.drive.specs.Calls.{Told, power_on, power_off, start, stop, set_position, tick, replay}
use Rattle.command.specs.declared.mnemonic.Mnemonic.{Mnemonic}
use Rattle.command.specs.declared.mnemonic.Mnemonic.TheVariants.{Va, Ac, Ag, Sl, Sr, Fp, Mo, Mf, Pa, Pr, St, Dh, Ws, Id, Tp, Dp, Md, Hn, Hx, Hv, Ha, Hd, Ho, Hf, Hl, Hp, Hw, Ab, Wt, Tb, Te}
use Rattle.command.specs.Commands.{Command}
use Rattle.groups.specs.Groups.{with_waypoints}
use Rattle.desk.specs.Desks.{DeskModel, velocity_set, acceleration_set, deceleration_set, left_set, right_set, digits_set, group_velocity_set, group_acceleration_set, group_deceleration_set, formed, dissolved, waypoint_queued, waypoint_taken, waypoints_emptied}
use Rattle.rules.specs.World.{Core, numbers, axis_count, group_count, settings, group, members, axis_at, resting, powered, with_desk, with_drive}
use Rattle.rules.specs.Refusals.{asking, axis_named, group_named, names_all, given, values, units, whole_value}

-- the core after a deed, and what the drive was told, in order
pub record Trail : Type 0 where
  pub core : Core
  pub told : List Told

-- nothing happens
abbrev pub quiet : Core → Trail
quiet k = record { core = k; told = [] }

-- the drive is told, and does what it is told
abbrev pub tell : List Told → Core → Trail
tell ts k = record { core = with_drive (replay ts k.drive) k; told = ts }

-- the desk is changed, the drive told nothing
abbrev pub note : DeskModel → Core → Trail
note d k = quiet (with_desk d k)

-- one deed, and another after it
abbrev pub and_then : Trail → (Core → Trail) → Trail
and_then t next = let u = next t.core in record { core = u.core; told = t.told ++ u.told }

-- ---- a beat: one tick of the drive, and what the groups do after it

-- each axis is started to its position
abbrev pub starts : Profile → List ℕ → List ℤ → List Told
starts q [] zs = []
starts q (n ∷ ns) [] = []
starts q (n ∷ ns) (z ∷ zs) = start n z q ∷ starts q ns zs

abbrev pub all_rest : Core → List ℕ → Bool
all_rest k ns = list_all (λ n. resting k n) ns

abbrev pub all_powered : Core → List ℕ → Bool
all_powered k ns = list_all (λ n. powered k n) ns

-- a waypoint waits
abbrev pub waits : Core → ℕ → Bool
waits k g = nat_lt 0 (length (group k g).waypoints)

abbrev pub first_waypoint : List (List ℤ) → List ℤ
first_waypoint [] = []
first_waypoint (w ∷ ws) = w

-- the first waypoint is taken out and started; where a member lacks power, all are emptied instead
abbrev pub set_off : Bool → ℕ → Core → Trail
set_off true g k = and_then (note (waypoint_taken g k.desk).1 k) (λ j. tell (starts (group k g).profile (members k g) (first_waypoint (group k g).waypoints)) j)
set_off false g k = note (waypoints_emptied g k.desk) k

-- if all members rest and a waypoint waits
abbrev pub go_on : Bool → ℕ → Core → Trail
go_on true g k = set_off (all_powered k (members k g)) g k
go_on false g k = quiet k

abbrev pub advance : ℕ → Core → Trail
advance g k = go_on (all_rest k (members k g) && waits k g) g k

abbrev pub advance_all : List ℕ → Core → Trail
advance_all [] k = quiet k
advance_all (g ∷ gs) k = and_then (advance g k) (advance_all gs)

-- one tick of the drive, then the groups in number order
abbrev pub beat : Core → Trail
beat k = and_then (tell (tick ∷ []) k) (advance_all (numbers (group_count k)))

-- so many beats
abbrev pub beats : ℕ → Core → Trail
beats zero k = quiet k
beats (suc n) k = and_then (beat k) (beats n)

-- beats until a test passes, so many at most; the flag says whether it passes now
abbrev pub wait : ℕ → Bool → (Core → Bool) → Core → Trail
wait zero b done k = quiet k
wait (suc n) true done k = quiet k
wait (suc n) false done k = and_then (beat k) (λ j. wait n (done j) done j)

-- at most 60,000 beats
abbrev pub wait_for : (Core → Bool) → Core → Trail
wait_for done k = wait 60000 (done k) done k

-- what WS waits for: the axis rests, or all do
abbrev pub still : Bool → ℕ → Core → Bool
still true n k = all_rest k (numbers (axis_count k))
still false n k = resting k n

-- what HW waits for: all members rest, and no waypoint waits
abbrev pub group_still : ℕ → Core → Bool
group_still g k = all_rest k (members k g) && not (waits k g)

-- ---- the deeds

-- a waypoint joins the queue, or all members start
abbrev pub send : Bool → ℕ → List ℤ → Core → Trail
send true g zs k = note (waypoint_queued g zs k.desk).1 k
send false g zs k = tell (starts (group k g).profile (members k g) zs) k

-- all waypoints of all groups go
abbrev pub all_emptied : DeskModel → DeskModel
all_emptied d = record { axes = d.axes; groups = map (with_waypoints (λ ws. [])) d.groups }

-- what the command m, not asking, does; n is the axis that it names, g the group, z its first parameter
abbrev pub does : Core → Mnemonic → Command → Trail
does k Va c = note (velocity_set (axis_named c) (unsigned_abs (given c)) k.desk).1 k
does k Ac c = note (acceleration_set (axis_named c) (unsigned_abs (given c)) k.desk).1 k
does k Ag c = note (deceleration_set (axis_named c) (unsigned_abs (given c)) k.desk).1 k
does k Sl c = note (left_set (axis_named c) (given c) k.desk).1 k
does k Sr c = note (right_set (axis_named c) (given c) k.desk).1 k
does k Fp c = note (digits_set (axis_named c) (whole_value (given c)) k.desk).1 k
does k Mo c = tell (power_on (axis_named c) ∷ []) k
does k Mf c = tell (power_off (axis_named c) ∷ []) k
does k Pa c = tell (start (axis_named c) (given c) (settings k (axis_named c)).own ∷ []) k
does k Pr c = tell (start (axis_named c) ((axis_at k (axis_named c)).target +ℤ given c) (settings k (axis_named c)).own ∷ []) k
does k St c = tell (stop (axis_named c) ∷ []) k
does k Dh c = tell (set_position (axis_named c) (given c) ∷ []) k
does k Ws c = wait_for (still (names_all c) (axis_named c)) k
does k Id c = quiet k
does k Tp c = quiet k
does k Dp c = quiet k
does k Md c = quiet k
does k Hn c = note (formed (group_named k c) (map units c.parameters) k.desk).1 k
does k Hx c = and_then (tell (map stop (members k (group_named k c))) k) (λ j. note (dissolved (group_named k c) j.desk).1 j)
does k Hv c = note (group_velocity_set (group_named k c) (unsigned_abs (given c)) k.desk).1 k
does k Ha c = note (group_acceleration_set (group_named k c) (unsigned_abs (given c)) k.desk).1 k
does k Hd c = note (group_deceleration_set (group_named k c) (unsigned_abs (given c)) k.desk).1 k
does k Ho c = tell (map power_on (members k (group_named k c))) k
does k Hf c = and_then (tell (map power_off (members k (group_named k c))) k) (λ j. note (waypoints_emptied (group_named k c) j.desk) j)
does k Hl c = send (not (all_rest k (members k (group_named k c))) || waits k (group_named k c)) (group_named k c) (values c) k
does k Hp c = quiet k
does k Hw c = wait_for (group_still (group_named k c)) k
does k Ab c = and_then (tell (map stop (numbers (axis_count k))) k) (λ j. note (all_emptied j.desk) j)
does k Wt c = beats (whole_value (given c)) k
does k Tb c = quiet k
does k Te c = quiet k

-- asking does nothing
abbrev pub unless_asking : Bool → Core → Mnemonic → Command → Trail
unless_asking true k m c = quiet k
unless_asking false k m c = does k m c

abbrev pub performed : Core → Option Mnemonic → Command → Trail
performed k None c = quiet k
performed k (Some m) c = unless_asking (asking m c) k m c

-- THE deed of an accepted command
abbrev pub perform : Core → Command → Trail
perform k c = performed k c.mnemonic c
