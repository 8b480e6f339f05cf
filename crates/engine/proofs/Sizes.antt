-- No command and no beat gives a group more members than there are axes.
use Rattle.std.proofs.Common.{◌≡◌, ℕ, zero, suc, ◌≤◌, Bool, true, false, not, ◌&&◌, ◌||◌, List, [], ◌∷◌, ◌++◌, map, length, ℤ, Some, None, Option, sym, refl, ap, subst, inl, inr, eqb, ltb, leb, arith}
use Rattle.command.specs.declared.mnemonic.Mnemonic.{Mnemonic}
use Rattle.command.specs.declared.mnemonic.Mnemonic.TheVariants.{Va, Ac, Ag, Sl, Sr, Fp, Mo, Mf, Pa, Pr, St, Dh, Ws, Id, Tp, Dp, Md, Hn, Hx, Hv, Ha, Hd, Ho, Hf, Hl, Hp, Hw, Ab, Wt, Tb, Te}
use Rattle.command.specs.Commands.{Command}
use Rattle.drive.specs.Calls.{tick}
use Rattle.groups.specs.Groups.{GroupModel, free_group, with_waypoints}
use Rattle.desk.specs.declared.axis_settings.AxisSettings.{AxisSettings}
use Rattle.desk.specs.Tables.{there, alter}
use Rattle.desk.specs.Axes.{with_digits, smallest_own}
use Rattle.desk.specs.Desks.{DeskModel, on_axis, at_group, on_group, in_use, can_join, group_at}
use Rattle.rules.specs.World.{Core, World, members, group, group_count, numbers}
use Rattle.rules.specs.Refusals.{names_all, axis_named, group_named, given, values, units, whole_value, tests_of, tests, each_axis, each_new, asking}
use Rattle.rules.specs.Deeds.{tell, all_rest, all_powered, waits, still, group_still, send, set_off, go_on, advance, advance_all, beat, beats, wait, does, unless_asking, performed}
use Rattle.rules.specs.Steps.{step, settled, accepted}
use Rattle.laws.proofs.Basics.{alter_keeps, alter_length, map_keeps, picked, Passed, passed_l, passed_r, judged, all_pass_has, there_low, there_high}
use Rattle.laws.proofs.Passing.{Passing, passing}
use Rattle.laws.proofs.Counts.{pigeons, names_there, names_apart}
use Rattle.answers.specs.Facts.{FewMembers}

-- the same members, and as many axes
few_same : (d e : DeskModel) → ((g : ℕ) → (group_at g e).members ≡ (group_at g d).members) → length e.axes ≡ length d.axes → FewMembers d → FewMembers e
few_same d e same count h g = omega (arith, h g, ap length (same g), count)

-- one axis or one group is changed in something else
few_axis : (f : AxisSettings → AxisSettings) (n : ℕ) (d : DeskModel) → FewMembers d → FewMembers (on_axis f n d).1
few_axis f n d h = picked (there n d.axes) FewMembers (true, record { axes = alter f n d.axes; groups = d.groups }) (false, d) (few_same d _ (λ g. refl) (alter_length f n d.axes) h) h

few_group : (f : GroupModel → GroupModel) (n : ℕ) (d : DeskModel) → ((g : GroupModel) → (f g).members ≡ g.members) → FewMembers d → FewMembers (at_group f n d)
few_group f n d same h = few_same d _ (alter_keeps (λ j x. x.members ≡ (group_at j d).members) f n d.groups free_group (λ j. refl) (same (group_at n d))) refl h

few_used : (f : GroupModel → GroupModel) (n : ℕ) (d : DeskModel) → ((g : GroupModel) → (f g).members ≡ g.members) → FewMembers d → FewMembers (on_group f n d).1
few_used f n d same h = picked (in_use n d) FewMembers (true, at_group f n d) (false, d) (few_group f n d same h) h

-- the members of one group are others, and not too many
few_put : (f : GroupModel → GroupModel) (n : ℕ) (d : DeskModel) → length (f (group_at n d)).members ≤ length d.axes → FewMembers d → FewMembers (at_group f n d)
few_put f n d few h = alter_keeps (λ j x. length x.members ≤ length d.axes) f n d.groups free_group h few

-- ---- beats

few_set_off : (b : Bool) (g : ℕ) (k : Core) → FewMembers k.desk → FewMembers (set_off b g k).core.desk
few_set_off true g k h = few_group (with_waypoints _) g k.desk (λ x. refl) h
few_set_off false g k h = few_group (with_waypoints _) g k.desk (λ x. refl) h

few_go_on : (b : Bool) (g : ℕ) (k : Core) → FewMembers k.desk → FewMembers (go_on b g k).core.desk
few_go_on true g k h = few_set_off (all_powered k (members k g)) g k h
few_go_on false g k h = h

few_advance_all : (gs : List ℕ) (k : Core) → FewMembers k.desk → FewMembers (advance_all gs k).core.desk
few_advance_all [] k h = h
few_advance_all (g ∷ gs) k h = few_advance_all gs (advance g k).core (few_go_on (all_rest k (members k g) && waits k g) g k h)

few_beat : (k : Core) → FewMembers k.desk → FewMembers (beat k).core.desk
few_beat k h = few_advance_all (numbers (group_count k)) (tell (tick ∷ []) k).core h

pub few_beats : (n : ℕ) (k : Core) → FewMembers k.desk → FewMembers (beats n k).core.desk
few_beats zero k h = h
few_beats (suc n) k h = few_beats n (beat k).core (few_beat k h)

few_wait : (n : ℕ) (b : Bool) (done : Core → Bool) (k : Core) → FewMembers k.desk → FewMembers (wait n b done k).core.desk
few_wait zero b done k h = h
few_wait (suc n) true done k h = h
few_wait (suc n) false done k h = few_wait n (done (beat k).core) done (beat k).core (few_beat k h)

-- ---- commands

few_send : (b : Bool) (g : ℕ) (zs : List ℤ) (k : Core) → FewMembers k.desk → FewMembers (send b g zs k).core.desk
few_send true g zs k h = picked (eqb (length zs) (length (members k g)) && ltb (length (group k g).waypoints) 8) FewMembers _ (false, k.desk) (few_used (with_waypoints (λ ws. ws ++ zs ∷ [])) g k.desk (λ x. refl) h) h
few_send false g zs k h = h

-- the axes that HN names are all different, so they are no more than there are
few_named : (k : Core) (c : Command) → Passing k Hn c → length (map units c.parameters) ≤ length k.desk.axes
few_named k c p =
    let fs = c.parameters in
    let ns = map units fs in
    let axes = k.desk.axes in
    let here = names_there k fs (passed_l (each_axis k fs) _ p.axes) in
    let apart = names_apart [] fs (passed_l (each_new [] fs) _ (passed_r (each_axis k fs) _ p.axes)) in
    pigeons (length axes) ns apart (λ m e. there_low m axes (all_pass_has (λ i. there i axes) ns m here e)) (λ m e. there_high m axes (all_pass_has (λ i. there i axes) ns m here e))

few_does : (k : Core) (m : Mnemonic) (c : Command) → FewMembers k.desk → Passing k m c → FewMembers (does k m c).core.desk
few_does k Va c h p = few_axis _ (axis_named c) k.desk h
few_does k Ac c h p = few_axis _ (axis_named c) k.desk h
few_does k Ag c h p = few_axis _ (axis_named c) k.desk h
few_does k Sl c h p = few_axis _ (axis_named c) k.desk h
few_does k Sr c h p = few_axis _ (axis_named c) k.desk h
few_does k Fp c h p = picked (leb (whole_value (given c)) 6) FewMembers _ (false, k.desk) (few_axis (with_digits (whole_value (given c))) (axis_named c) k.desk h) h
few_does k Mo c h p = h
few_does k Mf c h p = h
few_does k Pa c h p = h
few_does k Pr c h p = h
few_does k St c h p = h
few_does k Dh c h p = h
few_does k Ws c h p = few_wait 60000 (still (names_all c) (axis_named c) k) (still (names_all c) (axis_named c)) k h
few_does k Id c h p = h
few_does k Tp c h p = h
few_does k Dp c h p = h
few_does k Md c h p = h
few_does k Hn c h p =
    let n = group_named k c in
    let ns = map units c.parameters in
    picked (there n k.desk.groups && not (in_use n k.desk) && can_join ns k.desk) FewMembers _ (false, k.desk) (few_put (λ g. record { members = ns; profile = smallest_own k.desk.axes ns; waypoints = [] }) n k.desk (few_named k c p) h) h
few_does k Hx c h p = picked (in_use (group_named k c) k.desk) FewMembers _ (false, k.desk) (few_put (λ g. free_group) (group_named k c) k.desk (omega arith) h) h
few_does k Hv c h p = few_used _ (group_named k c) k.desk (λ x. refl) h
few_does k Ha c h p = few_used _ (group_named k c) k.desk (λ x. refl) h
few_does k Hd c h p = few_used _ (group_named k c) k.desk (λ x. refl) h
few_does k Ho c h p = h
few_does k Hf c h p = few_group (with_waypoints _) (group_named k c) k.desk (λ x. refl) h
few_does k Hl c h p = few_send (not (all_rest k (members k (group_named k c))) || waits k (group_named k c)) (group_named k c) (values c) k h
few_does k Hp c h p = h
few_does k Hw c h p = few_wait 60000 (group_still (group_named k c) k) (group_still (group_named k c)) k h
few_does k Ab c h p = few_same k.desk _ (map_keeps (λ j x. x.members ≡ (group_at j k.desk).members) (with_waypoints (λ ws. [])) k.desk.groups free_group (λ j. refl) (λ j. refl)) refl h
few_does k Wt c h p = few_beats (whole_value (given c)) k h
few_does k Tb c h p = h
few_does k Te c h p = h

few_performed : (k : Core) (m : Mnemonic) (c : Command) → FewMembers k.desk → Passed (tests_of k (Some m) c) → FewMembers (performed k (Some m) c).core.desk
few_performed k m c h p = by (asking m c) refl
  where
    by : (b : Bool) → asking m c ≡ b → FewMembers (unless_asking b k m c).core.desk
    by true e = h
    by false e = few_does k m c h (passing k m c e p)

pub few_step : (w : World) (c : Command) → FewMembers w.core.desk → FewMembers (step w c).world.core.desk
few_step w c h =
    let P : Option _ → Type 0 = λ o. FewMembers (settled w c o).world.core.desk in
    elim (judged (tests w.core c)) [ inl r ↦ subst P (sym r.1) h | inr r ↦ subst P (sym r.1) (accepted_few c.mnemonic refl r.0) ]
  where
    accepted_few : (o : Option Mnemonic) → c.mnemonic ≡ o → Passed (tests_of w.core o c) → FewMembers (accepted w o c).world.core.desk
    accepted_few None e p = absurd p.0
    accepted_few (Some m) e p = subst (λ o. FewMembers (performed w.core o c).core.desk) (sym e) (few_performed w.core m c h p)
