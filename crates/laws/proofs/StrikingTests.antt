-- The tests of a command without its columns are its tests, but for the columns. Assumes nothing.
use Rattle.std.proofs.Common.{◌≡◌, ℕ, suc, Bool, cond, not, ◌&&◌, ◌||◌, eqb, ltb, leb, List, [], ◌∷◌, ◌++◌, map, length, pos, ◌+ℤ◌, is_some, Some, None, Option, refl, ap, ◌∙◌}
use lib.Signed.{lt_z, le_z}
use Rattle.std.specs.Option.{option_map}
use Rattle.number.specs.Decimals.{read_decimal}
use Rattle.command.specs.declared.mnemonic.Mnemonic.{Mnemonic}
use Rattle.command.specs.declared.mnemonic.Mnemonic.TheVariants.{Sl, Sr, Pa, Pr, Dh, Ws, Hn, Hv, Ha, Hd, Hl, Wt}
use Rattle.command.specs.Commands.{Field, Command}
use Rattle.queue.specs.declared.fault.Fault.TheVariants.{ParameterOutOfRange, AxisOutOfRange, GroupMissing, GroupOutOfRange, GroupNotAssigned, GroupAlreadyAssigned, GroupAxisOutOfRange, GroupAxisAlreadyAssigned, GroupAxisDuplicated, GroupParameterMissing, GroupParameterOutOfRange, GroupVelocityExceeded, GroupAccelerationExceeded, GroupDecelerationExceeded, AxisMissing, ParameterMissing, WaypointsFull, AxisParameterOutOfRange, VelocityExceeded, AccelerationExceeded, MotorNotEnabled, VelocityOutOfRange, ChangeNotAllowed, InGroup}
use Rattle.groups.specs.Groups.{has}
use Rattle.desk.specs.Tables.{there}
use Rattle.desk.specs.Desks.{in_use}
use Rattle.rules.specs.World.{Core, axis_count, group_count, settings, group, members, axis_at, resting, powered, grouped}
use Rattle.rules.specs.Kinds.{is, among, axis_commands, group_commands, askable, with_one}
use Rattle.rules.specs.Refusals.{Test, needs, entry, where_so, asking, number_or, axis_named, group_named, names_all, blank_field, value, given, given_column, units, whole_within, axis_missing, axis_out, group_missing, group_out, group_taken, group_free, in_group, allowed, unblank_pass, blank_pass, question_pass, no_parameters, parameter_out, parameter_missing, none_blank, group_parameter_missing, each_axis, each_new, each_free, group_axes, moving_axis, velocity_out, axis_parameter_ok, axis_parameter_out, acceleration_out, group_figure_out, none_below, group_figure_over, power_missing, within_limits, each_within, limits_out, waypoints_full, naming, doing, tests_of, tests}
use Rattle.laws.proofs.StrikingViews.{field-view, view, test_view, number_view, question_view, given_view, column_view, count_view, blank_view, where_view, append_view}

-- ---- what it names

pub axis_same : (c : Command) → axis_named (view c) ≡ axis_named c
axis_same c = ap (number_or 0) (number_view c)

pub group_same : (k : Core) (c : Command) → group_named k (view c) ≡ group_named k c
group_same k c = ap (number_or (cond (eqb (group_count k) 1) 1 0)) (number_view c)

pub asking_same : (m : Mnemonic) (c : Command) → asking m (view c) ≡ asking m c
asking_same m c = ap (λ b. b && among askable m) (question_view c)

-- ---- rule by rule

-- two lists of tests in one rule
both : (F G : Command → List Test) (c : Command) → F (view c) ≡ map test_view (F c) → G (view c) ≡ map test_view (G c) → F (view c) ++ G (view c) ≡ map test_view (F c ++ G c)
both F G c d e = append_view (F (view c)) (F c) (G (view c)) (G c) d e

axis_missing_view : (m : Mnemonic) (c : Command) → axis_missing m (view c) ≡ map test_view (axis_missing m c)
axis_missing_view m c = where_view _ _ _ (λ i. needs (is_some (number_view c i)) (entry AxisMissing 0) ∷ [])

axis_out_view : (k : Core) (m : Mnemonic) (c : Command) → axis_out k m (view c) ≡ map test_view (axis_out k m c)
axis_out_view k m c =
    both (λ x. where_so (among axis_commands m) (needs (there (axis_named x) k.desk.axes) (entry AxisOutOfRange x.column) ∷ []))
    (λ x. where_so (is m Ws) (needs (names_all x || there (axis_named x) k.desk.axes) (entry AxisOutOfRange x.column) ∷ [])) c
    (where_view _ _ _ (λ i. needs (there (axis_same c i) k.desk.axes) (entry AxisOutOfRange 0) ∷ []))
    (where_view _ _ _ (λ i. needs (eqb (axis_same c i) 0 || there (axis_same c i) k.desk.axes) (entry AxisOutOfRange 0) ∷ []))

group_missing_view : (k : Core) (m : Mnemonic) (c : Command) → group_missing k m (view c) ≡ map test_view (group_missing k m c)
group_missing_view k m c = where_view _ _ _ (λ i. needs (is_some (number_view c i) || eqb (group_count k) 1) (entry GroupMissing 0) ∷ [])

group_out_view : (k : Core) (m : Mnemonic) (c : Command) → group_out k m (view c) ≡ map test_view (group_out k m c)
group_out_view k m c = where_view _ _ _ (λ i. needs (there (group_same k c i) k.desk.groups) (entry GroupOutOfRange 0) ∷ [])

-- where asking decides whether a rule applies
where_same : {a b : Bool} (us ts : List Test) → a ≡ b → us ≡ map test_view ts → where_so a us ≡ map test_view (where_so b ts)
where_same us ts e f = ap (λ b. where_so b us) e ∙ where_view _ us ts f

group_taken_view : (k : Core) (m : Mnemonic) (c : Command) → group_taken k m (view c) ≡ map test_view (group_taken k m c)
group_taken_view k m c = where_same _ _ (ap (λ b. is m Hn && not b) (asking_same m c)) (λ i. needs (not (in_use (group_same k c i) k.desk)) (entry GroupAlreadyAssigned 0) ∷ [])

group_free_view : (k : Core) (m : Mnemonic) (c : Command) → group_free k m (view c) ≡ map test_view (group_free k m c)
group_free_view k m c = where_same _ _ (ap (λ b. among group_commands m && not (is m Hn && not b)) (asking_same m c)) (λ i. needs (in_use (group_same k c i) k.desk) (entry GroupNotAssigned 0) ∷ [])

in_group_view : (k : Core) (m : Mnemonic) (c : Command) → in_group k m (view c) ≡ map test_view (in_group k m c)
in_group_view k m c = where_view _ _ _ (λ i. needs (not (grouped k (axis_same c i))) (entry (InGroup (axis_same c i)) 0) ∷ [])

allowed_same : (k : Core) (m : Mnemonic) (c : Command) (n : ℕ) → allowed k m (view c) n ≡ allowed k m c n
allowed_same k m c n = ap (λ g. is m Hn || (is m Hl && ltb n (length (members k g))) || (among with_one m && ltb n 1)) (group_same k c)

unblank_view : (k : Core) (m : Mnemonic) (c : Command) (n : ℕ) (fs : List Field) → unblank_pass k m (view c) n (map field-view fs) ≡ map test_view (unblank_pass k m c n fs)
unblank_view k m c n [] = refl
unblank_view k m c n (f ∷ fs) =
    (λ i. needs (blank_field f || not (not (is_some (read_decimal f.bytes)) || not (allowed_same k m c n i) || (is m Wt && not (whole_within 0 60000 (value f))))) (entry ParameterOutOfRange 0) ∷ unblank_view k m c (suc n) fs i)

blank_pass_view : (k : Core) (m : Mnemonic) (c : Command) (n : ℕ) (fs : List Field) → blank_pass k m (view c) n (map field-view fs) ≡ map test_view (blank_pass k m c n fs)
blank_pass_view k m c n [] = refl
blank_pass_view k m c n (f ∷ fs) = (λ i. needs (not (blank_field f) || allowed_same k m c n i) (entry ParameterOutOfRange 0) ∷ blank_pass_view k m c (suc n) fs i)

question_pass_view : (m : Mnemonic) (q : Option Field) → question_pass m (option_map field-view q) ≡ map test_view (question_pass m q)
question_pass_view m None = refl
question_pass_view m (Some f) = refl

none_same : (c : Command) → no_parameters (view c) ≡ no_parameters c
none_same c = ap (λ n. eqb n 0) (count_view c.parameters)

parameter_out_view : (k : Core) (m : Mnemonic) (c : Command) → parameter_out k m (view c) ≡ map test_view (parameter_out k m c)
parameter_out_view k m c =
    append_view _ _ _ _ (unblank_view k m c 0 c.parameters) (append_view _ _ _ _ (question_pass_view m c.question) (append_view _ _ _ _ (blank_pass_view k m c 0 c.parameters)
    (where_view _ _ _ (λ i. needs (not (none_same c i)) (entry ParameterOutOfRange 0) ∷ []))))

parameter_missing_view : (m : Mnemonic) (c : Command) → parameter_missing m (view c) ≡ map test_view (parameter_missing m c)
parameter_missing_view m c = where_view _ _ _ (λ i. needs (not (none_same c i)) (entry ParameterMissing 0) ∷ [])

group_parameter_missing_view : (k : Core) (m : Mnemonic) (c : Command) → group_parameter_missing k m (view c) ≡ map test_view (group_parameter_missing k m c)
group_parameter_missing_view k m c =
    both (λ x. where_so (is m Hn) (needs (leb 2 (length x.parameters) && none_blank x.parameters) (entry GroupParameterMissing x.column) ∷ []))
    (λ x. where_so (is m Hl) (needs (leb (length (members k (group_named k x))) (length x.parameters) && none_blank x.parameters) (entry GroupParameterMissing x.column) ∷ [])) c
    (where_view _ _ _ (λ i. needs (leb 2 (count_view c.parameters i) && blank_view c.parameters i) (entry GroupParameterMissing 0) ∷ []))
    (where_view _ _ _ (λ i. needs (leb (length (members k (group_same k c i))) (count_view c.parameters i) && blank_view c.parameters i) (entry GroupParameterMissing 0) ∷ []))

each_axis_view : (k : Core) (fs : List Field) → each_axis k (map field-view fs) ≡ map test_view (each_axis k fs)
each_axis_view k [] = refl
each_axis_view k (f ∷ fs) = ap (λ ts. needs (whole_within 1 (axis_count k) (value f)) (entry GroupAxisOutOfRange 0) ∷ ts) (each_axis_view k fs)

each_new_view : (earlier : List ℕ) (fs : List Field) → each_new earlier (map field-view fs) ≡ map test_view (each_new earlier fs)
each_new_view earlier [] = refl
each_new_view earlier (f ∷ fs) = ap (λ ts. needs (not (has (units f) earlier)) (entry GroupAxisDuplicated 0) ∷ ts) (each_new_view (units f ∷ earlier) fs)

each_free_view : (k : Core) (fs : List Field) → each_free k (map field-view fs) ≡ map test_view (each_free k fs)
each_free_view k [] = refl
each_free_view k (f ∷ fs) = ap (λ ts. needs (not (grouped k (units f))) (entry GroupAxisAlreadyAssigned 0) ∷ ts) (each_free_view k fs)

group_axes_view : (k : Core) (m : Mnemonic) (c : Command) → group_axes k m (view c) ≡ map test_view (group_axes k m c)
group_axes_view k m c =
    where_view _ _ _ (append_view _ _ _ _ (each_axis_view k c.parameters) (append_view _ _ _ _ (each_new_view [] c.parameters) (each_free_view k c.parameters)))

all_resting_view : (k : Core) (n : ℕ) (fs : List Field) → map (λ f. needs (resting k (units f)) (entry (ChangeNotAllowed (units f)) 0)) (map field-view fs) ≡ map test_view (map (λ f. needs (resting k (units f)) (entry (ChangeNotAllowed (units f)) n)) fs)
all_resting_view k n [] = refl
all_resting_view k n (f ∷ fs) = ap (λ ts. needs (resting k (units f)) (entry (ChangeNotAllowed (units f)) 0) ∷ ts) (all_resting_view k n fs)

moving_axis_view : (k : Core) (m : Mnemonic) (c : Command) → moving_axis k m (view c) ≡ map test_view (moving_axis k m c)
moving_axis_view k m c =
    both (λ x. where_so (among (Dh ∷ Sl ∷ Sr ∷ []) m) (needs (resting k (axis_named x)) (entry (ChangeNotAllowed (axis_named x)) x.column) ∷ []))
    (λ x. where_so (is m Hn) (map (λ f. needs (resting k (units f)) (entry (ChangeNotAllowed (units f)) x.column)) x.parameters)) c
    (where_view _ _ _ (λ i. needs (resting k (axis_same c i)) (entry (ChangeNotAllowed (axis_same c i)) 0) ∷ []))
    (where_view _ _ _ (all_resting_view k c.column c.parameters))

velocity_out_view : (k : Core) (m : Mnemonic) (c : Command) → velocity_out k m (view c) ≡ map test_view (velocity_out k m c)
velocity_out_view k m c =
    where_view _ _ _ (λ i. needs (lt_z (pos 0) (given_view c i)) (entry (VelocityOutOfRange (axis_same c i)) (column_view c i))
    ∷ needs (le_z (given_view c i) (pos (settings k (axis_same c i)).max_velocity)) (entry (VelocityExceeded (axis_same c i)) (column_view c i)) ∷ [])

axis_parameter_out_view : (k : Core) (m : Mnemonic) (c : Command) → axis_parameter_out k m (view c) ≡ map test_view (axis_parameter_out k m c)
axis_parameter_out_view k m c =
    where_view _ _ _ (λ i. needs (axis_parameter_ok k m (axis_same c i) (given_view c i)) (entry (AxisParameterOutOfRange (axis_same c i)) (column_view c i)) ∷ [])

acceleration_out_view : (k : Core) (m : Mnemonic) (c : Command) → acceleration_out k m (view c) ≡ map test_view (acceleration_out k m c)
acceleration_out_view k m c =
    where_view _ _ _ (λ i. needs (le_z (given_view c i) (pos (settings k (axis_same c i)).max_acceleration)) (entry (AccelerationExceeded (axis_same c i)) (column_view c i)) ∷ [])

group_figure_out_view : (m : Mnemonic) (c : Command) → group_figure_out m (view c) ≡ map test_view (group_figure_out m c)
group_figure_out_view m c = where_view _ _ _ (λ i. needs (lt_z (pos 0) (given_view c i)) (entry GroupParameterOutOfRange (column_view c i)) ∷ [])

group_figure_over_view : (k : Core) (m : Mnemonic) (c : Command) → group_figure_over k m (view c) ≡ map test_view (group_figure_over k m c)
group_figure_over_view k m c =
    both (λ x. where_so (is m Hv) (needs (none_below (given x) (map (λ n. (settings k n).max_velocity) (members k (group_named k x)))) (entry GroupVelocityExceeded (given_column x)) ∷ []))
    (λ x. where_so (is m Ha) (needs (none_below (given x) (map (λ n. (settings k n).max_acceleration) (members k (group_named k x)))) (entry GroupAccelerationExceeded (given_column x)) ∷ [])
    ++ where_so (is m Hd) (needs (none_below (given x) (map (λ n. (settings k n).max_acceleration) (members k (group_named k x)))) (entry GroupDecelerationExceeded (given_column x)) ∷ [])) c
    (where_view _ _ _ (λ i. needs (none_below (given_view c i) (map (λ n. (settings k n).max_velocity) (members k (group_same k c i)))) (entry GroupVelocityExceeded (column_view c i)) ∷ []))
    (both (λ x. where_so (is m Ha) (needs (none_below (given x) (map (λ n. (settings k n).max_acceleration) (members k (group_named k x)))) (entry GroupAccelerationExceeded (given_column x)) ∷ []))
    (λ x. where_so (is m Hd) (needs (none_below (given x) (map (λ n. (settings k n).max_acceleration) (members k (group_named k x)))) (entry GroupDecelerationExceeded (given_column x)) ∷ [])) c
    (where_view _ _ _ (λ i. needs (none_below (given_view c i) (map (λ n. (settings k n).max_acceleration) (members k (group_same k c i)))) (entry GroupAccelerationExceeded (column_view c i)) ∷ []))
    (where_view _ _ _ (λ i. needs (none_below (given_view c i) (map (λ n. (settings k n).max_acceleration) (members k (group_same k c i)))) (entry GroupDecelerationExceeded (column_view c i)) ∷ [])))

all_powered_view : (k : Core) (n : ℕ) (ns : List ℕ) → map (λ a. needs (powered k a) (entry (MotorNotEnabled a) 0)) ns ≡ map test_view (map (λ a. needs (powered k a) (entry (MotorNotEnabled a) n)) ns)
all_powered_view k n [] = refl
all_powered_view k n (a ∷ ns) = ap (λ ts. needs (powered k a) (entry (MotorNotEnabled a) 0) ∷ ts) (all_powered_view k n ns)

power_missing_view : (k : Core) (m : Mnemonic) (c : Command) → power_missing k m (view c) ≡ map test_view (power_missing k m c)
power_missing_view k m c =
    both (λ x. where_so (among (Pa ∷ Pr ∷ []) m) (needs (powered k (axis_named x)) (entry (MotorNotEnabled (axis_named x)) x.column) ∷ []))
    (λ x. where_so (is m Hl) (map (λ n. needs (powered k n) (entry (MotorNotEnabled n) x.column)) (members k (group_named k x)))) c
    (where_view _ _ _ (λ i. needs (powered k (axis_same c i)) (entry (MotorNotEnabled (axis_same c i)) 0) ∷ []))
    (where_view _ _ _ (ap (λ g. map (λ a. needs (powered k a) (entry (MotorNotEnabled a) 0)) (members k g)) (group_same k c) ∙ all_powered_view k c.column (members k (group_named k c))))

each_within_view : (k : Core) (ns : List ℕ) (fs : List Field) → each_within k ns (map field-view fs) ≡ map test_view (each_within k ns fs)
each_within_view k [] fs = refl
each_within_view k (n ∷ ns) [] = refl
each_within_view k (n ∷ ns) (f ∷ fs) = ap (λ ts. within_limits k n (value f) 0 ++ ts) (each_within_view k ns fs)

limits_out_view : (k : Core) (m : Mnemonic) (c : Command) → limits_out k m (view c) ≡ map test_view (limits_out k m c)
limits_out_view k m c =
    both (λ x. where_so (is m Pa) (within_limits k (axis_named x) (given x) (given_column x)))
    (λ x. where_so (is m Pr) (within_limits k (axis_named x) ((axis_at k (axis_named x)).target +ℤ given x) (given_column x))
    ++ where_so (is m Hl) (each_within k (members k (group_named k x)) x.parameters)) c
    (where_view _ _ _ (λ i. within_limits k (axis_same c i) (given_view c i) (column_view c i)))
    (both (λ x. where_so (is m Pr) (within_limits k (axis_named x) ((axis_at k (axis_named x)).target +ℤ given x) (given_column x)))
    (λ x. where_so (is m Hl) (each_within k (members k (group_named k x)) x.parameters)) c
    (where_view _ _ _ (λ i. within_limits k (axis_same c i) ((axis_at k (axis_same c i)).target +ℤ given_view c i) (column_view c i)))
    (where_view _ _ _ (ap (λ g. each_within k (members k g) (map field-view c.parameters)) (group_same k c) ∙ each_within_view k (members k (group_named k c)) c.parameters)))

waypoints_full_view : (k : Core) (m : Mnemonic) (c : Command) → waypoints_full k m (view c) ≡ map test_view (waypoints_full k m c)
waypoints_full_view k m c = where_view _ _ _ (λ i. needs (ltb (length (group k (group_same k c i)).waypoints) 8) (entry WaypointsFull 0) ∷ [])

-- ---- all together

naming_view : (k : Core) (m : Mnemonic) (c : Command) → naming k m (view c) ≡ map test_view (naming k m c)
naming_view k m c =
    append_view _ _ _ _ (axis_missing_view m c) (append_view _ _ _ _ (axis_out_view k m c) (append_view _ _ _ _ (group_missing_view k m c)
    (append_view _ _ _ _ (group_out_view k m c) (append_view _ _ _ _ (group_taken_view k m c) (group_free_view k m c)))))

doing_view : (k : Core) (m : Mnemonic) (c : Command) → doing k m (view c) ≡ map test_view (doing k m c)
doing_view k m c =
    append_view _ _ _ _ (in_group_view k m c) (append_view _ _ _ _ (parameter_out_view k m c) (append_view _ _ _ _ (parameter_missing_view m c)
    (append_view _ _ _ _ (group_parameter_missing_view k m c) (append_view _ _ _ _ (group_axes_view k m c) (append_view _ _ _ _ (moving_axis_view k m c)
    (append_view _ _ _ _ (velocity_out_view k m c) (append_view _ _ _ _ (axis_parameter_out_view k m c) (append_view _ _ _ _ (acceleration_out_view k m c)
    (append_view _ _ _ _ (group_figure_out_view m c) (append_view _ _ _ _ (group_figure_over_view k m c) (append_view _ _ _ _ (power_missing_view k m c)
    (append_view _ _ _ _ (limits_out_view k m c) (waypoints_full_view k m c)))))))))))))

tests_of_view : (k : Core) (o : Option Mnemonic) (c : Command) → tests_of k o (view c) ≡ map test_view (tests_of k o c)
tests_of_view k None c = refl
tests_of_view k (Some m) c = append_view _ _ _ _ (naming_view k m c) (where_same _ _ (ap not (asking_same m c)) (doing_view k m c))

pub tests_view : (k : Core) (c : Command) → tests k (view c) ≡ map test_view (tests k c)
tests_view k c = tests_of_view k c.mnemonic c
