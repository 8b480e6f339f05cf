-- When a command is refused: each rule as the tests that it makes, in the order of the rules. The first test that fails gives the
-- fault and its column. Assumes nothing.
use Rattle.std.specs.Prelude.{ℕ, suc, ◌/◌, ◌%◌, Bool, true, false, cond, not, ◌&&◌, ◌||◌, List, [], ◌∷◌, ◌++◌, map, length, ℤ, pos, negsuc, ◌+ℤ◌, is_some, Some, None, Option, ◌==◌, int_le, int_lt, nat_le, nat_lt, unsigned_abs}
use Rattle.number.specs.Decimals.{read_decimal}
use Rattle.command.specs.declared.mnemonic.Mnemonic.{Mnemonic}
use Rattle.command.specs.declared.mnemonic.Mnemonic.TheVariants.{Va, Ac, Ag, Sl, Sr, Fp, Pa, Pr, Dh, Ws, Hn, Hv, Ha, Hd, Hl, Wt}
use Rattle.command.specs.Commands.{Field, Command, prefix_number}
use Rattle.queue.specs.declared.error_entry.ErrorEntry.{ErrorEntry}
use Rattle.queue.specs.declared.fault.Fault.{Fault}
use Rattle.queue.specs.declared.fault.Fault.TheVariants.{UnknownCommand, ParameterOutOfRange, AxisOutOfRange, GroupMissing, GroupOutOfRange, GroupNotAssigned, GroupAlreadyAssigned, GroupAxisOutOfRange, GroupAxisAlreadyAssigned, GroupAxisDuplicated, GroupParameterMissing, GroupParameterOutOfRange, GroupVelocityExceeded, GroupAccelerationExceeded, GroupDecelerationExceeded, AxisMissing, ParameterMissing, WaypointsFull, AxisParameterOutOfRange, PositiveLimitExceeded, NegativeLimitExceeded, VelocityExceeded, AccelerationExceeded, MotorNotEnabled, VelocityOutOfRange, ChangeNotAllowed, InGroup}
use Rattle.groups.specs.Groups.{has}
use Rattle.desk.specs.Tables.{there}
use Rattle.desk.specs.Desks.{in_use}
use Rattle.rules.specs.World.{Core, axis_count, group_count, settings, group, members, axis_at, resting, powered, grouped}
use Rattle.rules.specs.Kinds.{is, among, axis_commands, group_commands, askable, with_one, needing_one, group_figures, barred_to_members}

-- ---- tests

-- a test, and what stands in the error queue where it fails
pub data Test : Type 0 where
  needs : Bool → ErrorEntry → Test

abbrev pub entry : Fault → ℕ → ErrorEntry
entry f column = record { fault = f; column = column }

-- the first that fails
abbrev pub refusal : List Test → Option ErrorEntry
refusal [] = None
refusal (needs true e ∷ more) = refusal more
refusal (needs false e ∷ more) = Some e

-- tests that are made where a rule applies
abbrev pub where_so : Bool → List Test → List Test
where_so true ts = ts
where_so false ts = []

-- ---- what a command names

-- it asks: its rest is a question mark, and it offers one
abbrev pub asking : Mnemonic → Command → Bool
asking m c = is_some c.question && among askable m

abbrev pub has_prefix : Command → Bool
has_prefix c = is_some (prefix_number c)

abbrev pub number_or : ℕ → Option ℕ → ℕ
number_or d (Some n) = n
number_or d None = d

-- the axis that an axis command names; 0 where it names none
abbrev pub axis_named : Command → ℕ
axis_named c = number_or 0 (prefix_number c)

-- the group that a group command names; where there is one group, it may be left out
abbrev pub group_named : Core → Command → ℕ
group_named k c = number_or (cond (group_count k == 1) 1 0) (prefix_number c)

-- WS without a prefix, or with 0, means all axes
abbrev pub names_all : Command → Bool
names_all c = axis_named c == 0

-- ---- what its parameters say

abbrev pub blank_field : Field → Bool
blank_field f = length f.bytes == 0

-- a decimal in millionths; 0 for what is none
abbrev pub or_zero : Option ℤ → ℤ
or_zero (Some z) = z
or_zero None = pos 0

abbrev pub value : Field → ℤ
value f = or_zero (read_decimal f.bytes)

abbrev pub values : Command → List ℤ
values c = map value c.parameters

-- the first parameter; missing means 0
abbrev pub first_of : List Field → ℤ
first_of [] = pos 0
first_of (f ∷ fs) = value f

abbrev pub given : Command → ℤ
given c = first_of c.parameters

-- its column; that of the command where it is missing
abbrev pub column_or : ℕ → List Field → ℕ
column_or d [] = d
column_or d (f ∷ fs) = f.column

abbrev pub given_column : Command → ℕ
given_column c = column_or c.column c.parameters

-- a whole number of units
abbrev pub whole_units : ℤ → Option ℕ
whole_units (pos n) = cond (n % 1000000 == 0) (Some (n / 1000000)) None
whole_units (negsuc n) = None

-- the whole number that a value is, 0 for one that is none
abbrev pub whole_value : ℤ → ℕ
whole_value z = number_or 0 (whole_units z)

-- the whole number that a parameter says
abbrev pub units : Field → ℕ
units f = whole_value (value f)

-- whole, and from low to high
abbrev pub between : ℕ → ℕ → Option ℕ → Bool
between low high (Some n) = nat_le low n && nat_le n high
between low high None = false

abbrev pub whole_within : ℕ → ℕ → ℤ → Bool
whole_within low high z = between low high (whole_units z)

-- ---- the rules, in their order

-- 37: an axis command, but WS, lacks its prefix
abbrev pub axis_missing : Mnemonic → Command → List Test
axis_missing m c = where_so (among axis_commands m) (needs (has_prefix c) (entry AxisMissing c.column) ∷ [])

-- 9: no such axis
abbrev pub axis_out : Core → Mnemonic → Command → List Test
axis_out k m c =
    where_so (among axis_commands m) (needs (there (axis_named c) k.desk.axes) (entry AxisOutOfRange c.column) ∷ [])
    ++ where_so (is m Ws) (needs (names_all c || there (axis_named c) k.desk.axes) (entry AxisOutOfRange c.column) ∷ [])

-- 13: a needed group prefix is missing
abbrev pub group_missing : Core → Mnemonic → Command → List Test
group_missing k m c = where_so (among group_commands m) (needs (has_prefix c || group_count k == 1) (entry GroupMissing c.column) ∷ [])

-- 14: no such group
abbrev pub group_out : Core → Mnemonic → Command → List Test
group_out k m c = where_so (among group_commands m) (needs (there (group_named k c) k.desk.groups) (entry GroupOutOfRange c.column) ∷ [])

-- 16: HN, not asking, names a group in use
abbrev pub group_taken : Core → Mnemonic → Command → List Test
group_taken k m c = where_so (is m Hn && not (asking m c)) (needs (not (in_use (group_named k c) k.desk)) (entry GroupAlreadyAssigned c.column) ∷ [])

-- 15: any other group command, or HN?, names one that is not
abbrev pub group_free : Core → Mnemonic → Command → List Test
group_free k m c = where_so (among group_commands m && not (is m Hn && not (asking m c))) (needs (in_use (group_named k c) k.desk) (entry GroupNotAssigned c.column) ∷ [])

-- x31: the axis is a member of a group
abbrev pub in_group : Core → Mnemonic → Command → List Test
in_group k m c = where_so (among barred_to_members m) (needs (not (grouped k (axis_named c))) (entry (InGroup (axis_named c)) c.column) ∷ [])

-- so many parameters are taken, any number by HN: the i-th, counted from 0, is one of them
abbrev pub allowed : Core → Mnemonic → Command → ℕ → Bool
allowed k m c i = is m Hn || (is m Hl && nat_lt i (length (members k (group_named k c)))) || (among with_one m && nat_lt i 1)

-- a parameter that is not blank offends: it is no decimal, or it is needless, or WT's is not whole from 0 to 60,000
abbrev pub offends : Core → Mnemonic → Command → ℕ → Field → Bool
offends k m c i f = not (is_some (read_decimal f.bytes)) || not (allowed k m c i) || (is m Wt && not (whole_within 0 60000 (value f)))

abbrev pub unblank_pass : Core → Mnemonic → Command → ℕ → List Field → List Test
unblank_pass k m c i [] = []
unblank_pass k m c i (f ∷ fs) = needs (blank_field f || not (offends k m c i f)) (entry ParameterOutOfRange f.column) ∷ unblank_pass k m c (suc i) fs

abbrev pub blank_pass : Core → Mnemonic → Command → ℕ → List Field → List Test
blank_pass k m c i [] = []
blank_pass k m c i (f ∷ fs) = needs (not (blank_field f) || allowed k m c i) (entry ParameterOutOfRange c.column) ∷ blank_pass k m c (suc i) fs

-- a question mark that is not offered
abbrev pub question_pass : Mnemonic → Option Field → List Test
question_pass m None = []
question_pass m (Some f) = needs (among askable m) (entry ParameterOutOfRange f.column) ∷ []

abbrev pub no_parameters : Command → Bool
no_parameters c = length c.parameters == 0

-- 7: a parameter offends, or a question mark is not offered, or HV, HA or HD has none
abbrev pub parameter_out : Core → Mnemonic → Command → List Test
parameter_out k m c =
    unblank_pass k m c 0 c.parameters ++ (question_pass m c.question ++ (blank_pass k m c 0 c.parameters
    ++ where_so (among group_figures m) (needs (not (no_parameters c)) (entry ParameterOutOfRange c.column) ∷ [])))

-- 38: a needed parameter is missing
abbrev pub parameter_missing : Mnemonic → Command → List Test
parameter_missing m c = where_so (among needing_one m) (needs (not (no_parameters c)) (entry ParameterMissing c.column) ∷ [])

abbrev pub none_blank : List Field → Bool
none_blank [] = true
none_blank (f ∷ fs) = not (blank_field f) && none_blank fs

-- 29: HN has fewer than two, HL fewer than members, or either has a blank one
abbrev pub group_parameter_missing : Core → Mnemonic → Command → List Test
group_parameter_missing k m c =
    where_so (is m Hn) (needs (nat_le 2 (length c.parameters) && none_blank c.parameters) (entry GroupParameterMissing c.column) ∷ [])
    ++ where_so (is m Hl) (needs (nat_le (length (members k (group_named k c))) (length c.parameters) && none_blank c.parameters) (entry GroupParameterMissing c.column) ∷ [])

-- 17: each is the number of an axis
abbrev pub each_axis : Core → List Field → List Test
each_axis k fs = map (λ f. needs (whole_within 1 (axis_count k) (value f)) (entry GroupAxisOutOfRange f.column)) fs

-- 19: none repeats an earlier one
abbrev pub each_new : List ℕ → List Field → List Test
each_new earlier [] = []
each_new earlier (f ∷ fs) = needs (not (has (units f) earlier)) (entry GroupAxisDuplicated f.column) ∷ each_new (units f ∷ earlier) fs

-- 18: none is a member of a group
abbrev pub each_free : Core → List Field → List Test
each_free k fs = map (λ f. needs (not (grouped k (units f))) (entry GroupAxisAlreadyAssigned f.column)) fs

abbrev pub group_axes : Core → Mnemonic → Command → List Test
group_axes k m c = where_so (is m Hn) (each_axis k c.parameters ++ (each_new [] c.parameters ++ each_free k c.parameters))

-- x26: an axis moves
abbrev pub moving_axis : Core → Mnemonic → Command → List Test
moving_axis k m c =
    where_so (among (Dh ∷ Sl ∷ Sr ∷ []) m) (needs (resting k (axis_named c)) (entry (ChangeNotAllowed (axis_named c)) c.column) ∷ [])
    ++ where_so (is m Hn) (map (λ f. needs (resting k (units f)) (entry (ChangeNotAllowed (units f)) c.column)) c.parameters)

-- x24, x10: VA is not above 0, or above the maximum
abbrev pub velocity_out : Core → Mnemonic → Command → List Test
velocity_out k m c =
    where_so (is m Va)
    (needs (int_lt (pos 0) (given c)) (entry (VelocityOutOfRange (axis_named c)) (given_column c))
    ∷ needs (int_le (given c) (pos (settings k (axis_named c)).max_velocity)) (entry (VelocityExceeded (axis_named c)) (given_column c)) ∷ [])

-- a position within the reach of the axis n
abbrev pub reachable : Core → ℕ → ℤ → Bool
reachable k n z = nat_le (unsigned_abs z) (axis_at k n).reach

-- what x01 asks of the parameter
abbrev pub axis_parameter_ok : Core → Mnemonic → ℕ → ℤ → Bool
axis_parameter_ok k m n z =
    (not (among (Ac ∷ Ag ∷ []) m) || int_lt (pos 0) z)
    && (not (is m Fp) || whole_within 0 6 z)
    && (not (is m Dh) || (int_le (settings k n).left z && int_le z (settings k n).right))
    && (not (is m Sl) || (int_le z (axis_at k n).position && reachable k n z))
    && (not (is m Sr) || (int_le (axis_at k n).position z && reachable k n z))

-- x01: AC or AG not above 0, FP not whole from 0 to 6, DH outside the limits, SL above or SR below the position or either beyond the reach
abbrev pub axis_parameter_out : Core → Mnemonic → Command → List Test
axis_parameter_out k m c =
    where_so (among (Ac ∷ Ag ∷ Fp ∷ Dh ∷ Sl ∷ Sr ∷ []) m) (needs (axis_parameter_ok k m (axis_named c) (given c)) (entry (AxisParameterOutOfRange (axis_named c)) (given_column c)) ∷ [])

-- x11: AC or AG above the maximum
abbrev pub acceleration_out : Core → Mnemonic → Command → List Test
acceleration_out k m c =
    where_so (among (Ac ∷ Ag ∷ []) m)
    (needs (int_le (given c) (pos (settings k (axis_named c)).max_acceleration)) (entry (AccelerationExceeded (axis_named c)) (given_column c)) ∷ [])

-- 30: HV, HA or HD is not above 0
abbrev pub group_figure_out : Mnemonic → Command → List Test
group_figure_out m c = where_so (among group_figures m) (needs (int_lt (pos 0) (given c)) (entry GroupParameterOutOfRange (given_column c)) ∷ [])

-- no member's maximum is below z
abbrev pub none_below : ℤ → List ℕ → Bool
none_below z [] = true
none_below z (n ∷ ns) = int_le z (pos n) && none_below z ns

-- 31, 32, 33: above the smallest maximum of a member
abbrev pub group_figure_over : Core → Mnemonic → Command → List Test
group_figure_over k m c =
    let velocities = map (λ n. (settings k n).max_velocity) (members k (group_named k c)) in
    let accelerations = map (λ n. (settings k n).max_acceleration) (members k (group_named k c)) in
    where_so (is m Hv) (needs (none_below (given c) velocities) (entry GroupVelocityExceeded (given_column c)) ∷ [])
    ++ (where_so (is m Ha) (needs (none_below (given c) accelerations) (entry GroupAccelerationExceeded (given_column c)) ∷ [])
    ++ where_so (is m Hd) (needs (none_below (given c) accelerations) (entry GroupDecelerationExceeded (given_column c)) ∷ []))

-- x13: an axis that would start has no power
abbrev pub power_missing : Core → Mnemonic → Command → List Test
power_missing k m c =
    where_so (among (Pa ∷ Pr ∷ []) m) (needs (powered k (axis_named c)) (entry (MotorNotEnabled (axis_named c)) c.column) ∷ [])
    ++ where_so (is m Hl) (map (λ n. needs (powered k n) (entry (MotorNotEnabled n) c.column)) (members k (group_named k c)))

-- the target z of the axis n is not right and not left of its limits
abbrev pub within_limits : Core → ℕ → ℤ → ℕ → List Test
within_limits k n z column =
    needs (int_le z (settings k n).right) (entry (PositiveLimitExceeded n) column) ∷ needs (int_le (settings k n).left z) (entry (NegativeLimitExceeded n) column) ∷ []

abbrev pub each_within : Core → List ℕ → List Field → List Test
each_within k [] fs = []
each_within k (n ∷ ns) [] = []
each_within k (n ∷ ns) (f ∷ fs) = within_limits k n (value f) f.column ++ each_within k ns fs

-- x06, x07: a target outside the limits
abbrev pub limits_out : Core → Mnemonic → Command → List Test
limits_out k m c =
    where_so (is m Pa) (within_limits k (axis_named c) (given c) (given_column c))
    ++ (where_so (is m Pr) (within_limits k (axis_named c) ((axis_at k (axis_named c)).target +ℤ given c) (given_column c))
    ++ where_so (is m Hl) (each_within k (members k (group_named k c)) c.parameters))

-- 92: eight waypoints wait
abbrev pub waypoints_full : Core → Mnemonic → Command → List Test
waypoints_full k m c = where_so (is m Hl) (needs (nat_lt (length (group k (group_named k c)).waypoints) 8) (entry WaypointsFull c.column) ∷ [])

-- ---- all together

-- what every command meets, asking or not
abbrev pub naming : Core → Mnemonic → Command → List Test
naming k m c = axis_missing m c ++ (axis_out k m c ++ (group_missing k m c ++ (group_out k m c ++ (group_taken k m c ++ group_free k m c))))

-- what only a command meets that does not ask
abbrev pub doing : Core → Mnemonic → Command → List Test
doing k m c =
    in_group k m c ++ (parameter_out k m c ++ (parameter_missing m c ++ (group_parameter_missing k m c ++ (group_axes k m c ++ (moving_axis k m c
    ++ (velocity_out k m c ++ (axis_parameter_out k m c ++ (acceleration_out k m c ++ (group_figure_out m c ++ (group_figure_over k m c
    ++ (power_missing k m c ++ (limits_out k m c ++ waypoints_full k m c))))))))))))

abbrev pub tests_of : Core → Option Mnemonic → Command → List Test
tests_of k None c = needs false (entry UnknownCommand c.column) ∷ []
tests_of k (Some m) c = naming k m c ++ where_so (not (asking m c)) (doing k m c)

-- the tests of a command, in the order of the rules; 6 where no known mnemonic stands in it
abbrev pub tests : Core → Command → List Test
tests k c = tests_of k c.mnemonic c

-- THE refusal of a command, if it is refused
abbrev pub refused_by : Core → Command → Option ErrorEntry
refused_by k c = refusal (tests k c)
