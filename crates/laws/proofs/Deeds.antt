-- What holds of every accepted command.
use Rattle.std.proofs.Common.{◌≡◌, ℕ, ◌≤◌, Bool, true, false, not, ◌&&◌, ◌||◌, T, eqb, ltb, leb, List, [], ◌∷◌, ◌++◌, map, length, ℤ, ◌+ℤ◌, nat_abs, ◌≤ℤ◌, Some, None, Option, sym, refl, subst, inl, inr, arith, leb→le}
use lib.Signed.{le_z}
use Rattle.std.proofs.lemmas.Int.{ints}
use Rattle.std.specs.List.{list_all}
use Rattle.drive.specs.declared.profile.Profile.{Profile}
use Rattle.drive.specs.Model.{Axis, at_rest}
use Rattle.drive.specs.Calls.{Told, power_on, power_off, stop, set_position}
use Rattle.drive.proofs.Numbers.{inside_is}
use Rattle.command.specs.declared.mnemonic.Mnemonic.{Mnemonic}
use Rattle.command.specs.declared.mnemonic.Mnemonic.TheVariants.{Va, Ac, Ag, Sl, Sr, Fp, Mo, Mf, Pa, Pr, St, Dh, Ws, Id, Tp, Dp, Md, Hn, Hx, Hv, Ha, Hd, Ho, Hf, Hl, Hp, Hw, Ab, Wt, Tb, Te}
use Rattle.command.specs.Commands.{Command}
use Rattle.groups.specs.Groups.{GroupModel, free_group, with_profile, with_waypoints, has}
use Rattle.groups.specs.Profiles.{velocity_in, acceleration_in, deceleration_in, lesser, least}
use Rattle.desk.specs.declared.axis_settings.AxisSettings.{AxisSettings}
use Rattle.desk.specs.Tables.{there, row_or}
use Rattle.desk.specs.Axes.{no_axis, with_own, with_left, with_right, with_digits, own_of, smallest_own}
use Rattle.desk.specs.Desks.{DeskModel, on_axis, on_group, in_use, can_join, formed, dissolved, waypoints_emptied, digits_set}
use Rattle.rules.specs.World.{Core, settings, group, members, axis_at, axis_count, powered, resting, numbers}
use Rattle.rules.specs.Refusals.{asking, axis_named, group_named, names_all, given, values, units, whole_value, tests_of, tests}
use Rattle.rules.specs.Deeds.{Trail, tell, note, all_rest, waits, still, group_still, send, all_emptied, does, unless_asking, performed}
use Rattle.rules.specs.World.{World}
use Rattle.rules.specs.Steps.{Step, step, settled, accepted}
use Rattle.laws.specs.Laws.{AtMost}
use Rattle.laws.proofs.Basics.{alter_keeps, picked, picked_when, all_append, all_map, all_pass_has, has_case, and_l, and_r, there_low, there_high, judged, Passed}
use Rattle.laws.proofs.Good.{most, Inside, GoodAxis, Fit, GoodGroup, Good, Allowed, le_of, at_most_refl, at_most_trans, axis_good, group_good, on_group_good, waypoints_good, free_good, emptied_good, all_emptied_good}
use Rattle.laws.proofs.Trails.{Fine, quiet_fine, note_fine, then_fine, NoStart, tell_fine, starts_fine, group_proper, beats_calm, wait_calm}
use Rattle.laws.proofs.Passing.{Passing, passing, ungrouped, figure_le, parameter_parts, none_below_has, each_on, within_fit}

-- ---- the settings of an axis

axis_fine : (k : Core) (f : AxisSettings → AxisSettings) (n : ℕ) → Good k → GoodAxis (f (settings k n)) (axis_at k n) → ((s : AxisSettings) → most (f s) ≡ most s) → ((g : ℕ) → T (has n (members k g)) → (z : ℤ) → Inside (settings k n) z → Inside (f (settings k n)) z) → Fine k (note (on_axis f n k.desk).1 k)
axis_fine k f n g here m stay =
    note_fine k (on_axis f n k.desk).1 (axis_good k f n g here m stay)
    (picked (there n k.desk.axes) (λ (d : DeskModel). (j : ℕ) → most (row_or no_axis j d.axes) ≡ most (settings k j)) _ _
    (alter_keeps (λ j s. most s ≡ most (settings k j)) f n k.desk.axes no_axis (λ j. refl) (m (settings k n))) (λ j. refl))

-- an own profile within the maxima
own_fine : (k : Core) (f : Profile → Profile) (n : ℕ) → Good k → AtMost (f (settings k n).own) (most (settings k n)) → Fine k (note (on_axis (λ a. with_own (f a.own) a) n k.desk).1 k)
own_fine k f n g h =
    let a = g.each n in
    axis_fine k (λ s. with_own (f s.own) s) n g
    (record { left_position = a.left_position; position_right = a.position_right; left_target = a.left_target; target_right = a.target_right; left_reach = a.left_reach; right_reach = a.right_reach; own_most = h; fair = a.fair })
    (λ s. refl) (λ h e z i. record { low = i.low; high = i.high })

rests_so : (a : Axis) → T (at_rest a) → (a.position ≤ℤ a.target) × (a.target ≤ℤ a.position)
rests_so a h = (le_of (and_l (le_z a.position a.target) (le_z a.target a.position) h), le_of (and_r (le_z a.position a.target) (le_z a.target a.position) h))

left_fine : (k : Core) (n : ℕ) (z : ℤ) → Good k → ((g : ℕ) → T (has n (members k g)) → ⊥) → T (resting k n) → T (le_z z (axis_at k n).position && leb (nat_abs z) (axis_at k n).reach) → Fine k (note (on_axis (with_left z) n k.desk).1 k)
left_fine k n z g out rest h =
    let a = g.each n in
    let low : z ≤ℤ (axis_at k n).position = le_of (and_l (le_z z (axis_at k n).position) _ h) in
    let r = inside_is z (axis_at k n).reach (leb→le _ _ (and_r (le_z z (axis_at k n).position) _ h)) in
    let still = rests_so (axis_at k n) rest in
    axis_fine k (with_left z) n g
    (record { left_position = low; position_right = a.position_right; left_target = omega (arith, ints); target_right = a.target_right; left_reach = r.0; right_reach = a.right_reach; own_most = a.own_most; fair = a.fair })
    (λ s. refl) (λ h e. absurd (out h e))

right_fine : (k : Core) (n : ℕ) (z : ℤ) → Good k → ((g : ℕ) → T (has n (members k g)) → ⊥) → T (resting k n) → T (le_z (axis_at k n).position z && leb (nat_abs z) (axis_at k n).reach) → Fine k (note (on_axis (with_right z) n k.desk).1 k)
right_fine k n z g out rest h =
    let a = g.each n in
    let high : (axis_at k n).position ≤ℤ z = le_of (and_l (le_z (axis_at k n).position z) _ h) in
    let r = inside_is z (axis_at k n).reach (leb→le _ _ (and_r (le_z (axis_at k n).position z) _ h)) in
    let still = rests_so (axis_at k n) rest in
    axis_fine k (with_right z) n g
    (record { left_position = a.left_position; position_right = high; left_target = a.left_target; target_right = omega (arith, ints); left_reach = a.left_reach; right_reach = r.1; own_most = a.own_most; fair = a.fair })
    (λ s. refl) (λ h e. absurd (out h e))

digits_fine : (k : Core) (n j : ℕ) → Good k → Fine k (note (digits_set n j k.desk).1 k)
digits_fine k n j g =
    let a = g.each n in
    picked (leb j 6) (λ d. Fine k (note d k)) _ _
    (axis_fine k (with_digits j) n g
    (record { left_position = a.left_position; position_right = a.position_right; left_target = a.left_target; target_right = a.target_right; left_reach = a.left_reach; right_reach = a.right_reach; own_most = a.own_most; fair = a.fair })
    (λ s. refl) (λ h e z i. record { low = i.low; high = i.high }))
    (note_fine k k.desk g (λ m. refl))

-- ---- groups

on_group_fine : (k : Core) (f : GroupModel → GroupModel) (n : ℕ) → Good k → (T (in_use n k.desk) → GoodGroup (settings k) (length k.desk.axes) (f (group k n))) → Fine k (note (on_group f n k.desk).1 k)
on_group_fine k f n g here = note_fine k (on_group f n k.desk).1 (on_group_good k f n g here) (picked (in_use n k.desk) (λ (d : DeskModel). (j : ℕ) → most (row_or no_axis j d.axes) ≡ most (settings k j)) _ _ (λ j. refl) (λ j. refl))

-- another profile within the maxima of the members
profile_fine : (k : Core) (f : Profile → Profile) (n : ℕ) → Good k → ((m : ℕ) → T (has m (members k n)) → AtMost (f (group k n).profile) (most (settings k m))) → Fine k (note (on_group (with_profile f) n k.desk).1 k)
profile_fine k f n g h = on_group_fine k (with_profile f) n g (λ u. record { there_low = (g.groups n).there_low; there_high = (g.groups n).there_high; figures = h; waiting = (g.groups n).waiting; idle = (g.groups n).idle })

lesser_l : (p q : Profile) → AtMost (lesser p q) p
lesser_l p q = omega arith

lesser_r : (p q : Profile) → AtMost (lesser p q) q
lesser_r p q = omega arith

pub least_first : (p : Profile) (qs : List Profile) → AtMost (least p qs) p
least_first p [] = at_most_refl p
least_first p (q ∷ qs) = at_most_trans (least (lesser p q) qs) (lesser p q) p (least_first (lesser p q) qs) (lesser_l p q)

pub least_later : (own : ℕ → Profile) (p : Profile) (ns : List ℕ) (n : ℕ) → T (has n ns) → AtMost (least p (map own ns)) (own n)
least_later own p [] n e = absurd e
least_later own p (m ∷ ns) n e =
    has_case n m ns
    (λ q. subst (λ j. AtMost (least p (map own (m ∷ ns))) (own j)) q (at_most_trans (least (lesser p (own m)) (map own ns)) (lesser p (own m)) (own m) (least_first (lesser p (own m)) (map own ns)) (lesser_r p (own m))))
    (least_later own (lesser p (own m)) ns n) e

smallest_below : (axes : List AxisSettings) (ns : List ℕ) (n : ℕ) → T (has n ns) → AtMost (smallest_own axes ns) (own_of axes n)
smallest_below axes [] n e = absurd e
smallest_below axes (m ∷ ns) n e = has_case n m ns (λ q. subst (λ j. AtMost (smallest_own axes (m ∷ ns)) (own_of axes j)) q (least_first (own_of axes m) (map (own_of axes) ns))) (least_later (own_of axes) (own_of axes m) ns n) e

formed_fine : (k : Core) (n : ℕ) (ms : List ℕ) → Good k → Fine k (note (formed n ms k.desk).1 k)
formed_fine k n ms g =
    let axes = k.desk.axes in
    picked_when (there n k.desk.groups && not (in_use n k.desk) && can_join ms k.desk) (λ d. Fine k (note d k)) _ _
    (λ t.
    let here : T (list_all (λ m. there m axes) ms) = joined_there t in
    note_fine k _ (group_good k _ n g
    (record {
      there_low = λ m e. there_low m axes (all_pass_has (λ i. there i axes) ms m here e);
      there_high = λ m e. there_high m axes (all_pass_has (λ i. there i axes) ms m here e);
      figures = λ m e. at_most_trans (smallest_own axes ms) (own_of axes m) (most (settings k m)) (smallest_below axes ms m e) (g.each m).own_most;
      waiting = tt;
      idle = λ e. refl;
    })) (λ j. refl))
    (note_fine k k.desk g (λ j. refl))
  where
    third : (a b x y z : Bool) → T (a && b && (x && y && z)) → T z
    third true true true true true t = tt
    third false b x y z t = absurd t
    third true false x y z t = absurd t
    third true true false y z t = absurd t
    third true true true false z t = absurd t
    third true true true true false t = absurd t

    joined_there : T (there n k.desk.groups && not (in_use n k.desk) && can_join ms k.desk) → T (list_all (λ m. there m k.desk.axes) ms)
    joined_there t = third (there n k.desk.groups) (not (in_use n k.desk)) (leb 2 (length ms)) (leb (length ms) 12) _ t

-- a waypoint joins the queue, or all members start
send_fine : (b : Bool) (g : ℕ) (zs : List ℤ) (k : Core) → Good k → ((n : ℕ) → T (has n (members k g)) → T (powered k n)) → Fit (settings k) (members k g) zs → Fine k (send b g zs k)
send_fine true g zs k good on f =
    picked (eqb (length zs) (length (members k g)) && ltb (length (group k g).waypoints) 8) (λ d. Fine k (note d k)) _ _
    (on_group_fine k (with_waypoints (λ ws. ws ++ zs ∷ [])) g good (λ u. waypoints_good k (λ ws. ws ++ zs ∷ []) g good (all_append (Fit (settings k) (members k g)) (group k g).waypoints (zs ∷ []) (good.groups g).waiting (f, tt)) (λ e. absurd (subst (λ ms. T (ltb 0 (length ms))) e u))))
    (note_fine k k.desk good (λ j. refl))
send_fine false g zs k good on f = starts_fine k (group k g).profile (members k g) zs good (group_proper k g good (members k g) zs (λ n e. e) on f)

-- all of a list are told one thing that is no start, and the desk is changed after it
all_told_fine : (k : Core) (t : ℕ → Told) (ns : List ℕ) → Good k → ((n : ℕ) → Allowed (settings k) (t n)) → ((n : ℕ) → NoStart (t n)) → Fine k (tell (map t ns) k)
all_told_fine k t ns g a h = tell_fine k (map t ns) g (all_map (Allowed (settings k)) t a ns) (all_map NoStart t h ns)

-- ---- every command

pub does_fine : (k : Core) (m : Mnemonic) (c : Command) → Good k → Passing k m c → Fine k (does k m c)
does_fine k Va c g p =
    let n = axis_named c in
    let a = (g.each n).own_most in
    own_fine k (velocity_in (nat_abs (given c))) n g (record { velocity = figure_le (given c) _ p.velocity.0 p.velocity.1.0; acceleration = a.acceleration; deceleration = a.deceleration })
does_fine k Ac c g p =
    let n = axis_named c in
    let a = (g.each n).own_most in
    own_fine k (acceleration_in (nat_abs (given c))) n g (record { velocity = a.velocity; acceleration = figure_le (given c) _ (parameter_parts k Ac (axis_named c) (given c) p.parameter.0).0 p.acceleration.0; deceleration = a.deceleration })
does_fine k Ag c g p =
    let n = axis_named c in
    let a = (g.each n).own_most in
    own_fine k (deceleration_in (nat_abs (given c))) n g (record { velocity = a.velocity; acceleration = a.acceleration; deceleration = figure_le (given c) _ (parameter_parts k Ag (axis_named c) (given c) p.parameter.0).0 p.acceleration.0 })
does_fine k Sl c g p = left_fine k (axis_named c) (given c) g (ungrouped k.desk.groups (axis_named c) p.alone.0) p.still.0 (parameter_parts k Sl (axis_named c) (given c) p.parameter.0).1.1.1.0
does_fine k Sr c g p = right_fine k (axis_named c) (given c) g (ungrouped k.desk.groups (axis_named c) p.alone.0) p.still.0 (parameter_parts k Sr (axis_named c) (given c) p.parameter.0).1.1.1.1
does_fine k Fp c g p = digits_fine k (axis_named c) (whole_value (given c)) g
does_fine k Mo c g p = tell_fine k (power_on (axis_named c) ∷ []) g (tt, tt) (tt, tt)
does_fine k Mf c g p = tell_fine k (power_off (axis_named c) ∷ []) g (tt, tt) (tt, tt)
does_fine k Pa c g p =
    let n = axis_named c in
    starts_fine k (settings k n).own (n ∷ []) (given c ∷ []) g (
      record {
        due = inr (ungrouped k.desk.groups n p.alone.0, refl);
        inside = record { low = le_of p.limits.1.0; high = le_of p.limits.0 };
        power = p.power.0;
        low = there_low n k.desk.axes p.axis_there.0;
        high = subst (λ m. n ≤ m) g.lengths (there_high n k.desk.axes p.axis_there.0);
      },
      tt,
    )
does_fine k Pr c g p =
    let n = axis_named c in
    starts_fine k (settings k n).own (n ∷ []) (((axis_at k n).target +ℤ given c) ∷ []) g (
      record {
        due = inr (ungrouped k.desk.groups n p.alone.0, refl);
        inside = record { low = le_of p.limits.1.0; high = le_of p.limits.0 };
        power = p.power.0;
        low = there_low n k.desk.axes p.axis_there.0;
        high = subst (λ m. n ≤ m) g.lengths (there_high n k.desk.axes p.axis_there.0);
      },
      tt,
    )
does_fine k St c g p = tell_fine k (stop (axis_named c) ∷ []) g (tt, tt) (tt, tt)
does_fine k Dh c g p =
    let n = axis_named c in
    let z = given c in
    let w : T (le_z (settings k n).left z && le_z z (settings k n).right) = (parameter_parts k Dh (axis_named c) (given c) p.parameter.0).1.1.0 in
    tell_fine k (set_position n z ∷ []) g (record { low = le_of (and_l (le_z (settings k n).left z) _ w); high = le_of (and_r (le_z (settings k n).left z) _ w) }, tt) (tt, tt)
does_fine k Ws c g p = (wait_calm 60000 (still (names_all c) (axis_named c) k) (still (names_all c) (axis_named c)) k g).fine
does_fine k Id c g p = quiet_fine k g
does_fine k Tp c g p = quiet_fine k g
does_fine k Dp c g p = quiet_fine k g
does_fine k Md c g p = quiet_fine k g
does_fine k Hn c g p = formed_fine k (group_named k c) (map units c.parameters) g
does_fine k Hx c g p =
    let n = group_named k c in
    let t = tell (map stop (members k n)) k in
    let f = all_told_fine k stop (members k n) g (λ m. tt) (λ m. tt) in
    then_fine k t (λ j. note (dissolved n j.desk).1 j) f (on_group_fine t.core (λ x. free_group) n f.good (λ u. free_good _ _)) tt
does_fine k Hv c g p =
    let n = group_named k c in
    profile_fine k (velocity_in (nat_abs (given c))) n g
    (λ m e. let a = (g.groups n).figures m e in record { velocity = figure_le (given c) _ p.figure.0 (none_below_has (λ i. (settings k i).max_velocity) (given c) (members k n) p.figure_most.0 m e); acceleration = a.acceleration; deceleration = a.deceleration })
does_fine k Ha c g p =
    let n = group_named k c in
    profile_fine k (acceleration_in (nat_abs (given c))) n g
    (λ m e. let a = (g.groups n).figures m e in record { velocity = a.velocity; acceleration = figure_le (given c) _ p.figure.0 (none_below_has (λ i. (settings k i).max_acceleration) (given c) (members k n) p.figure_most.0 m e); deceleration = a.deceleration })
does_fine k Hd c g p =
    let n = group_named k c in
    profile_fine k (deceleration_in (nat_abs (given c))) n g
    (λ m e. let a = (g.groups n).figures m e in record { velocity = a.velocity; acceleration = a.acceleration; deceleration = figure_le (given c) _ p.figure.0 (none_below_has (λ i. (settings k i).max_acceleration) (given c) (members k n) p.figure_most.0 m e) })
does_fine k Ho c g p = all_told_fine k power_on (members k (group_named k c)) g (λ m. tt) (λ m. tt)
does_fine k Hf c g p =
    let n = group_named k c in
    let t = tell (map power_off (members k n)) k in
    let f = all_told_fine k power_off (members k n) g (λ m. tt) (λ m. tt) in
    then_fine k t (λ j. note (waypoints_emptied n j.desk) j) f (note_fine t.core (waypoints_emptied n k.desk) (emptied_good t.core n f.good) (λ j. refl)) tt
does_fine k Hl c g p =
    let n = group_named k c in
    send_fine (not (all_rest k (members k n)) || waits k n) n (values c) k g (each_on (powered k) _ (members k n) p.power) (within_fit k (members k n) c.parameters p.limits)
does_fine k Hp c g p = quiet_fine k g
does_fine k Hw c g p = (wait_calm 60000 (group_still (group_named k c) k) (group_still (group_named k c)) k g).fine
does_fine k Ab c g p =
    let t = tell (map stop (numbers (axis_count k))) k in
    let f = all_told_fine k stop (numbers (axis_count k)) g (λ m. tt) (λ m. tt) in
    then_fine k t (λ j. note (all_emptied j.desk) j) f (note_fine t.core (all_emptied k.desk) (all_emptied_good t.core f.good) (λ j. refl)) tt
does_fine k Wt c g p = (beats_calm (whole_value (given c)) k g).fine
does_fine k Tb c g p = quiet_fine k g
does_fine k Te c g p = quiet_fine k g

performed_fine : (k : Core) (o : Option Mnemonic) (c : Command) → Good k → Passed (tests_of k o c) → Fine k (performed k o c)
performed_fine k None c g p = absurd p.0
performed_fine k (Some m) c g p = by (asking m c) refl
  where
    by : (b : Bool) → asking m c ≡ b → Fine k (unless_asking b k m c)
    by true e = quiet_fine k g
    by false e = does_fine k m c g (passing k m c e p)

-- a step, as a deed
abbrev pub trail_of : Step → Trail
trail_of s = record { core = s.world.core; told = s.told }

pub step_fine : (w : World) (c : Command) → Good w.core → Fine w.core (trail_of (step w c))
step_fine w c g =
    let P : Option _ → Type 0 = λ o. Fine w.core (trail_of (settled w c o)) in
    elim (judged (tests w.core c)) [ inl r ↦ subst P (sym r.1) (quiet_fine w.core g) | inr r ↦ subst P (sym r.1) (accepted_fine c.mnemonic r.0) ]
  where
    accepted_fine : (o : Option Mnemonic) → Passed (tests w.core c) → Fine w.core (trail_of (accepted w o c))
    accepted_fine None p = quiet_fine w.core g
    accepted_fine (Some m) p = performed_fine w.core c.mnemonic c g p
