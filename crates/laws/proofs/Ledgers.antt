-- Desk and ledger.
use Rattle.std.proofs.Common.{◌≡◌, ℕ, zero, suc, ◌≤◌, Bool, true, false, cond, not, ◌&&◌, ◌||◌, T, eqb, ltb, leb, List, [], ◌∷◌, ◌++◌, map, length, ℤ, Some, None, Ok, Err, Option, Result, sym, refl, ap, ◌∙◌, subst, inl, inr, arith, le→leb, eqb→eq}
use Rattle.std.proofs.lemmas.Bool.{lt-ltb, ne_eqb}
use Rattle.drive.specs.declared.profile.Profile.{Profile}
use Rattle.drive.specs.Model.{Axis}
use Rattle.drive.specs.Calls.{power_off, stop}
use Rattle.command.specs.declared.mnemonic.Mnemonic.{Mnemonic}
use Rattle.command.specs.declared.mnemonic.Mnemonic.TheVariants.{Va, Ac, Ag, Sl, Sr, Fp, Mo, Mf, Pa, Pr, St, Dh, Ws, Id, Tp, Dp, Md, Hn, Hx, Hv, Ha, Hd, Ho, Hf, Hl, Hp, Hw, Ab, Wt, Tb, Te}
use Rattle.command.specs.Commands.{Command, prefix_number, commands_of}
use Rattle.queue.specs.declared.fault.Fault.TheVariants.{GroupAlreadyAssigned}
use Rattle.queue.specs.declared.refusal.Refusal.{Refusal}
use Rattle.groups.specs.Groups.{GroupModel, free_group, with_profile, with_waypoints, has}
use Rattle.groups.specs.Profiles.{no_profile, velocity_in, acceleration_in, deceleration_in}
use Rattle.desk.specs.declared.axis_settings.AxisSettings.{AxisSettings}
use Rattle.desk.specs.Tables.{there, row_or, alter}
use Rattle.desk.specs.Axes.{no_axis, with_own, with_left, with_right, with_digits, smallest_own}
use Rattle.desk.specs.Desks.{DeskModel, on_axis, at_group, on_group, in_use, can_join, formed, dissolved, digits_set}
use Rattle.rules.specs.World.{Core, World, settings, group, members, axis_count, group_count, grouped, numbers, with_desk, with_drive}
use Rattle.rules.specs.Refusals.{where_so, needs, entry, asking, number_or, axis_named, group_named, names_all, given, values, units, whole_value, tests_of, tests, each_axis, each_new}
use Rattle.rules.specs.Deeds.{tell, all_rest, waits, still, group_still, send, all_emptied, beats, does, unless_asking, performed}
use Rattle.rules.specs.Steps.{step, settled, accepted, run_commands}
use Rattle.rules.specs.Calls.{matches, too_long, line_world, line_taken}
use Rattle.rules.specs.Runs.{Call, line_sent, ticks_made, error_asked, after_line, called, run}
use Rattle.laws.specs.Ledger.{Ledger, own_entered, left_entered, right_entered, shared_entered, taken_in, let_go, smallest, group_meant, figure, enter, enter_unless, enter_known, feed, ledger, due}
use Rattle.laws.specs.Laws.{state, was_refused, protocol, line_protocol, taken_protocol, call_protocol, calls_protocol, Agree, Balanced, InOneAtMost}
use Rattle.laws.proofs.Basics.{alter_keeps, alter_length, map_keeps, map_count, not_both, picked, picked_so, Passed, passed_l, passed_r, judged, all_pass_has, and_l, and_both, there_low, there_high}
use Rattle.laws.proofs.Good.{Good}
use Rattle.laws.proofs.Trails.{Same, ProperStart, beats_calm, wait_calm}
use Rattle.laws.proofs.Passing.{Passing, passing, ungrouped}
use Rattle.laws.proofs.Runs.{step_good, beats_good, call_keeps}
use Rattle.laws.proofs.Counts.{row_put, row_same, let_go_balanced, let_go_single, taken_in_balanced, taken_in_single, in_none, smallest_same, pigeons, names_there, names_apart, names_free}

-- what holds between ledger and desk
pub record Kept (l : Ledger) (k : Core) : Type 0 where
  pub agree : Agree l k
  pub balanced : Balanced l
  pub single : InOneAtMost l
  pub groups_are : group_count k ≡ l.groups
  pub few : axis_count k ≤ 12

-- ---- what the ledger does not see

pub record Alike (j k : Core) : Type 0 where
  pub left : (n : ℕ) → (settings k n).left ≡ (settings j n).left
  pub right : (n : ℕ) → (settings k n).right ≡ (settings j n).right
  pub own : (n : ℕ) → (settings k n).own ≡ (settings j n).own
  pub members : (g : ℕ) → members k g ≡ members j g
  pub shared : (g : ℕ) → (group k g).profile ≡ (group j g).profile
  pub groups : group_count k ≡ group_count j
  pub axes : axis_count k ≡ axis_count j

pub kept_alike : (l : Ledger) (j k : Core) → Alike j k → Kept l j → Kept l k
kept_alike l j k a h =
    record {
      agree = record {
        left = λ n. a.left n ∙ h.agree.left n;
        right = λ n. a.right n ∙ h.agree.right n;
        own = λ n. a.own n ∙ h.agree.own n;
        members = λ g. a.members g ∙ h.agree.members g;
        shared = λ g. a.shared g ∙ h.agree.shared g;
      };
      balanced = h.balanced;
      single = h.single;
      groups_are = a.groups ∙ h.groups_are;
      few = subst (λ n. n ≤ 12) (sym a.axes) h.few;
    }

-- another drive
alike_drive : (k : Core) (xs : List Axis) → Alike k (with_drive xs k)
alike_drive k xs = record { left = λ n. refl; right = λ n. refl; own = λ n. refl; members = λ g. refl; shared = λ g. refl; groups = refl; axes = refl }

alike_refl : (k : Core) → Alike k k
alike_refl k = record { left = λ n. refl; right = λ n. refl; own = λ n. refl; members = λ g. refl; shared = λ g. refl; groups = refl; axes = refl }

pub alike_same : (j k : Core) → Same j k → Alike j k
alike_same j k s =
    record {
      left = λ n. ap (λ xs. (row_or no_axis n xs).left) s.axes;
      right = λ n. ap (λ xs. (row_or no_axis n xs).right) s.axes;
      own = λ n. ap (λ xs. (row_or no_axis n xs).own) s.axes;
      members = s.members;
      shared = s.shared;
      groups = s.groups;
      axes = ap length s.axes;
    }

-- other waypoints of one group, or of all
alike_waypoints : (k : Core) (f : List (List ℤ) → List (List ℤ)) (g : ℕ) → Alike k (with_desk (at_group (with_waypoints f) g k.desk) k)
alike_waypoints k f g =
    record {
      left = λ n. refl;
      right = λ n. refl;
      own = λ n. refl;
      members = alter_keeps (λ j x. x.members ≡ members k j) (with_waypoints f) g k.desk.groups free_group (λ j. refl) refl;
      shared = alter_keeps (λ j x. x.profile ≡ (group k j).profile) (with_waypoints f) g k.desk.groups free_group (λ j. refl) refl;
      groups = alter_length (with_waypoints f) g k.desk.groups;
      axes = refl;
    }

alike_emptied : (k : Core) → Alike k (with_desk (all_emptied k.desk) k)
alike_emptied k =
    record {
      left = λ n. refl;
      right = λ n. refl;
      own = λ n. refl;
      members = map_keeps (λ j x. x.members ≡ members k j) (with_waypoints (λ ws. [])) k.desk.groups free_group (λ j. refl) (λ j. refl);
      shared = map_keeps (λ j x. x.profile ≡ (group k j).profile) (with_waypoints (λ ws. [])) k.desk.groups free_group (λ j. refl) (λ j. refl);
      groups = map_count (with_waypoints (λ ws. [])) k.desk.groups;
      axes = refl;
    }

alike_digits : (k : Core) (n d : ℕ) → Alike k (with_desk (digits_set n d k.desk).1 k)
alike_digits k n d =
    let P : DeskModel → Type 0 = λ e. Alike k (with_desk e k) in
    let xs = k.desk.axes in
    picked (leb d 6) P _ _
    (picked (there n xs) P _ _
    (record {
      left = alter_keeps (λ j s. s.left ≡ (settings k j).left) (with_digits d) n xs no_axis (λ j. refl) refl;
      right = alter_keeps (λ j s. s.right ≡ (settings k j).right) (with_digits d) n xs no_axis (λ j. refl) refl;
      own = alter_keeps (λ j s. s.own ≡ (settings k j).own) (with_digits d) n xs no_axis (λ j. refl) refl;
      members = λ g. refl;
      shared = λ g. refl;
      groups = refl;
      axes = alter_length (with_digits d) n xs;
    })
    (alike_refl k))
    (alike_refl k)

alike_send : (b : Bool) (g : ℕ) (zs : List ℤ) (k : Core) → Alike k (send b g zs k).core
alike_send true g zs k =
    let P : DeskModel → Type 0 = λ e. Alike k (with_desk e k) in
    picked (eqb (length zs) (length (members k g)) && ltb (length (group k g).waypoints) 8) P _ _
    (picked (in_use g k.desk) P _ _ (alike_waypoints k (λ ws. ws ++ zs ∷ []) g) (alike_refl k)) (alike_refl k)
alike_send false g zs k = alike_drive k _

-- ---- what it sees

-- the settings of one axis
axis_kept : (l m : Ledger) (k : Core) (f : AxisSettings → AxisSettings) (n : ℕ) → T (there n k.desk.axes) → Kept l k → m.groups ≡ l.groups → Balanced m → InOneAtMost m
    → ((j : ℕ) → (row_or no_axis j (alter f n k.desk.axes)).left ≡ m.left j) → ((j : ℕ) → (row_or no_axis j (alter f n k.desk.axes)).right ≡ m.right j)
    → ((j : ℕ) → (row_or no_axis j (alter f n k.desk.axes)).own ≡ m.own j) → ((g : ℕ) → l.members g ≡ m.members g) → ((g : ℕ) → l.shared g ≡ m.shared g)
    → Kept m (with_desk (on_axis f n k.desk).1 k)
axis_kept l m k f n t h e b s left right own ms ps =
    subst (λ d. Kept m (with_desk d k)) (sym (picked_so (there n k.desk.axes) (true, record { axes = alter f n k.desk.axes; groups = k.desk.groups }) (false, k.desk) t))
    (record {
      agree = record { left = left; right = right; own = own; members = λ g. h.agree.members g ∙ ms g; shared = λ g. h.agree.shared g ∙ ps g };
      balanced = b;
      single = s;
      groups_are = h.groups_are ∙ sym e;
      few = subst (λ c. c ≤ 12) (sym (alter_length f n k.desk.axes)) h.few;
    })

own_kept : (l : Ledger) (k : Core) (f : Profile → Profile) (n : ℕ) → T (there n k.desk.axes) → Kept l k → Kept (own_entered n (f (l.own n)) l) (with_desk (on_axis (λ a. with_own (f a.own) a) n k.desk).1 k)
own_kept l k f n t h =
    let xs = k.desk.axes in
    let u : AxisSettings → AxisSettings = λ a. with_own (f a.own) a in
    axis_kept l (own_entered n (f (l.own n)) l) k u n t h refl h.balanced h.single
    (row_same u (λ s. s.left) n xs no_axis l.left h.agree.left refl)
    (row_same u (λ s. s.right) n xs no_axis l.right h.agree.right refl)
    (row_put u (λ s. s.own) n xs no_axis l.own h.agree.own (f (l.own n)) (there_low n xs t) (there_high n xs t) (ap f (h.agree.own n)))
    (λ g. refl) (λ g. refl)

left_kept : (l : Ledger) (k : Core) (n : ℕ) (z : ℤ) → T (there n k.desk.axes) → Kept l k → Kept (left_entered n z l) (with_desk (on_axis (with_left z) n k.desk).1 k)
left_kept l k n z t h =
    let xs = k.desk.axes in
    axis_kept l (left_entered n z l) k (with_left z) n t h refl h.balanced h.single
    (row_put (with_left z) (λ s. s.left) n xs no_axis l.left h.agree.left z (there_low n xs t) (there_high n xs t) refl)
    (row_same (with_left z) (λ s. s.right) n xs no_axis l.right h.agree.right refl)
    (row_same (with_left z) (λ s. s.own) n xs no_axis l.own h.agree.own refl)
    (λ g. refl) (λ g. refl)

right_kept : (l : Ledger) (k : Core) (n : ℕ) (z : ℤ) → T (there n k.desk.axes) → Kept l k → Kept (right_entered n z l) (with_desk (on_axis (with_right z) n k.desk).1 k)
right_kept l k n z t h =
    let xs = k.desk.axes in
    axis_kept l (right_entered n z l) k (with_right z) n t h refl h.balanced h.single
    (row_same (with_right z) (λ s. s.left) n xs no_axis l.left h.agree.left refl)
    (row_put (with_right z) (λ s. s.right) n xs no_axis l.right h.agree.right z (there_low n xs t) (there_high n xs t) refl)
    (row_same (with_right z) (λ s. s.own) n xs no_axis l.own h.agree.own refl)
    (λ g. refl) (λ g. refl)

-- one group
group_kept : (l m : Ledger) (k : Core) (f : GroupModel → GroupModel) (g : ℕ) → Kept l k → m.groups ≡ l.groups → Balanced m → InOneAtMost m
    → ((n : ℕ) → l.left n ≡ m.left n) → ((n : ℕ) → l.right n ≡ m.right n) → ((n : ℕ) → l.own n ≡ m.own n)
    → ((j : ℕ) → (row_or free_group j (alter f g k.desk.groups)).members ≡ m.members j) → ((j : ℕ) → (row_or free_group j (alter f g k.desk.groups)).profile ≡ m.shared j)
    → Kept m (with_desk (at_group f g k.desk) k)
group_kept l m k f g h e b s left right own ms ps =
    record {
      agree = record { left = λ n. h.agree.left n ∙ left n; right = λ n. h.agree.right n ∙ right n; own = λ n. h.agree.own n ∙ own n; members = ms; shared = ps };
      balanced = b;
      single = s;
      groups_are = alter_length f g k.desk.groups ∙ h.groups_are ∙ sym e;
      few = h.few;
    }

used : (k : Core) (f : GroupModel → GroupModel) (g : ℕ) → T (in_use g k.desk) → (on_group f g k.desk).1 ≡ at_group f g k.desk
used k f g t = picked_so (in_use g k.desk) (true, at_group f g k.desk) (false, k.desk) t

shared_kept : (l : Ledger) (k : Core) (f : Profile → Profile) (g : ℕ) → T (there g k.desk.groups) → T (in_use g k.desk) → Kept l k → Kept (shared_entered g (f (l.shared g)) l) (with_desk (on_group (with_profile f) g k.desk).1 k)
shared_kept l k f g t u h =
    let gs = k.desk.groups in
    subst (λ d. Kept (shared_entered g (f (l.shared g)) l) (with_desk d k)) (sym (used k (with_profile f) g u))
    (group_kept l (shared_entered g (f (l.shared g)) l) k (with_profile f) g h refl h.balanced h.single (λ n. refl) (λ n. refl) (λ n. refl)
    (row_same (with_profile f) (λ x. x.members) g gs free_group l.members h.agree.members refl)
    (row_put (with_profile f) (λ x. x.profile) g gs free_group l.shared h.agree.shared (f (l.shared g)) (there_low g gs t) (there_high g gs t) (ap f (h.agree.shared g))))

freed_kept : (l : Ledger) (k : Core) (g : ℕ) → T (there g k.desk.groups) → T (in_use g k.desk) → Kept l k → Kept (let_go g l) (with_desk (dissolved g k.desk).1 k)
freed_kept l k g t u h =
    let gs = k.desk.groups in
    let f : GroupModel → GroupModel = λ x. free_group in
    let low = there_low g gs t in
    let high = there_high g gs t in
    subst (λ d. Kept (let_go g l) (with_desk d k)) (sym (used k f g u))
    (group_kept l (let_go g l) k f g h refl (let_go_balanced g l low h.balanced) (let_go_single g l low h.single) (λ n. refl) (λ n. refl) (λ n. refl)
    (row_put f (λ x. x.members) g gs free_group l.members h.agree.members [] low high refl)
    (row_put f (λ x. x.profile) g gs free_group l.shared h.agree.shared no_profile low high refl))

unused : (ns : List ℕ) → T (not (ltb 0 (length ns))) → ns ≡ []
unused [] h = refl
unused (n ∷ ns) h = absurd (not_both (ltb 0 (length (n ∷ ns))) h (subst T (sym (lt-ltb 0 (length (n ∷ ns)) (omega arith))) tt))

taken_kept : (l : Ledger) (k : Core) (g : ℕ) (ns : List ℕ) → T (there g k.desk.groups) → T (not (in_use g k.desk)) → T (can_join ns k.desk) → ((n : ℕ) → T (has n ns) → T (not (grouped k n))) → Kept l k → Kept (taken_in g ns l) (with_desk (formed g ns k.desk).1 k)
taken_kept l k g ns t u j free h =
    let gs = k.desk.groups in
    let f : GroupModel → GroupModel = λ x. record { members = ns; profile = smallest_own k.desk.axes ns; waypoints = [] } in
    let low = there_low g gs t in
    let high = there_high g gs t in
    let none : (n : ℕ) → T (has n ns) → l.group n ≡ 0 = λ n e. in_none l h.single n (λ i q. ungrouped gs n (free n e) (suc i) (subst (λ ms. T (has n ms)) (sym (h.agree.members (suc i))) q)) in
    subst (λ d. Kept (taken_in g ns l) (with_desk d k))
    (sym (picked_so (there g gs && not (in_use g k.desk) && can_join ns k.desk) (true, at_group f g k.desk) (false, k.desk) (and_both (there g gs && not (in_use g k.desk)) (can_join ns k.desk) (and_both (there g gs) (not (in_use g k.desk)) t u) j)))
    (group_kept l (taken_in g ns l) k f g h refl (taken_in_balanced g ns l low none h.balanced) (taken_in_single g ns l low none (sym (h.agree.members g) ∙ unused (members k g) u) h.single) (λ n. refl) (λ n. refl) (λ n. refl)
    (row_put f (λ x. x.members) g gs free_group l.members h.agree.members ns low high refl)
    (row_put f (λ x. x.profile) g gs free_group l.shared h.agree.shared (smallest l.own ns) low high (smallest_same k.desk.axes l.own h.agree.own ns)))

-- the group that the ledger means is the group that the command names
meant : (l : Ledger) (k : Core) (c : Command) → Kept l k → group_named k c ≡ group_meant l c
meant l k c h = ap (λ n. number_or (cond (eqb n 1) 1 0) (prefix_number c)) h.groups_are

-- HN has at least two, and not more than there are axes
joins : (l : Ledger) (k : Core) (c : Command) → Kept l k → Passing k Hn c → T (can_join (map units c.parameters) k.desk)
joins l k c h p =
    let fs = c.parameters in
    let ns = map units fs in
    let axes = k.desk.axes in
    let here = names_there k fs (passed_l (each_axis k fs) _ p.axes) in
    let apart = names_apart [] fs (passed_l (each_new [] fs) _ (passed_r (each_axis k fs) _ p.axes)) in
    let most = pigeons (length axes) ns apart (λ m e. there_low m axes (all_pass_has (λ i. there i axes) ns m here e)) (λ m e. there_high m axes (all_pass_has (λ i. there i axes) ns m here e)) in
    let two : T (leb 2 (length ns)) = subst (λ n. T (leb 2 n)) (sym (map_count units fs)) (and_l (leb 2 (length fs)) _ p.enough.0) in
    let few = h.few in
    let twelve : T (leb (length ns) 12) = le→leb (length ns) 12 (omega arith) in
    and_both (leb 2 (length ns) && leb (length ns) 12) _ (and_both (leb 2 (length ns)) (leb (length ns) 12) two twelve) here

-- ---- every command

pub does_kept : (l : Ledger) (k : Core) (m : Mnemonic) (c : Command) → Good k → Kept l k → Passing k m c → Kept (enter l m c) (does k m c).core
does_kept l k Va c g h p = own_kept l k (velocity_in (figure c)) (axis_named c) p.axis_there.0 h
does_kept l k Ac c g h p = own_kept l k (acceleration_in (figure c)) (axis_named c) p.axis_there.0 h
does_kept l k Ag c g h p = own_kept l k (deceleration_in (figure c)) (axis_named c) p.axis_there.0 h
does_kept l k Sl c g h p = left_kept l k (axis_named c) (given c) p.axis_there.0 h
does_kept l k Sr c g h p = right_kept l k (axis_named c) (given c) p.axis_there.0 h
does_kept l k Hv c g h p = subst (λ n. Kept (shared_entered n (velocity_in (figure c) (l.shared n)) l) (does k Hv c).core) (meant l k c h) (shared_kept l k (velocity_in (figure c)) (group_named k c) p.group_there.0 p.group_used.0 h)
does_kept l k Ha c g h p = subst (λ n. Kept (shared_entered n (acceleration_in (figure c) (l.shared n)) l) (does k Ha c).core) (meant l k c h) (shared_kept l k (acceleration_in (figure c)) (group_named k c) p.group_there.0 p.group_used.0 h)
does_kept l k Hd c g h p = subst (λ n. Kept (shared_entered n (deceleration_in (figure c) (l.shared n)) l) (does k Hd c).core) (meant l k c h) (shared_kept l k (deceleration_in (figure c)) (group_named k c) p.group_there.0 p.group_used.0 h)
does_kept l k Hn c g h p =
    let fs = c.parameters in
    let new : T (not (in_use (group_named k c) k.desk)) = (subst (λ b. Passed (where_so (not b) (needs (not (in_use (group_named k c) k.desk)) (entry GroupAlreadyAssigned c.column) ∷ []))) p.not_asking p.group_new).0 in
    subst (λ n. Kept (taken_in n (map units fs) l) (does k Hn c).core) (meant l k c h)
    (taken_kept l k (group_named k c) (map units fs) p.group_there.0 new (joins l k c h p) (names_free k fs (passed_r (each_new [] fs) _ (passed_r (each_axis k fs) _ p.axes))) h)
does_kept l k Hx c g h p =
    let n = group_named k c in
    let j = (tell (map stop (members k n)) k).core in
    subst (λ i. Kept (let_go i l) (does k Hx c).core) (meant l k c h) (freed_kept l j n p.group_there.0 p.group_used.0 (kept_alike l k j (alike_drive k _) h))
does_kept l k Fp c g h p = kept_alike l k _ (alike_digits k (axis_named c) (whole_value (given c))) h
does_kept l k Mo c g h p = kept_alike l k _ (alike_drive k _) h
does_kept l k Mf c g h p = kept_alike l k _ (alike_drive k _) h
does_kept l k Pa c g h p = kept_alike l k _ (alike_drive k _) h
does_kept l k Pr c g h p = kept_alike l k _ (alike_drive k _) h
does_kept l k St c g h p = kept_alike l k _ (alike_drive k _) h
does_kept l k Dh c g h p = kept_alike l k _ (alike_drive k _) h
does_kept l k Ws c g h p = kept_alike l k (does k Ws c).core (alike_same k (does k Ws c).core (wait_calm 60000 (still (names_all c) (axis_named c) k) (still (names_all c) (axis_named c)) k g).same) h
does_kept l k Id c g h p = h
does_kept l k Tp c g h p = h
does_kept l k Dp c g h p = h
does_kept l k Md c g h p = h
does_kept l k Ho c g h p = kept_alike l k _ (alike_drive k _) h
does_kept l k Hf c g h p =
    let n = group_named k c in
    let j = (tell (map power_off (members k n)) k).core in
    kept_alike l j (does k Hf c).core (alike_waypoints j (λ ws. []) n) (kept_alike l k j (alike_drive k _) h)
does_kept l k Hl c g h p = let n = group_named k c in kept_alike l k (does k Hl c).core (alike_send (not (all_rest k (members k n)) || waits k n) n (values c) k) h
does_kept l k Hp c g h p = h
does_kept l k Hw c g h p = kept_alike l k (does k Hw c).core (alike_same k (does k Hw c).core (wait_calm 60000 (group_still (group_named k c) k) (group_still (group_named k c)) k g).same) h
does_kept l k Ab c g h p =
    let j = (tell (map stop (numbers (axis_count k))) k).core in
    kept_alike l j (does k Ab c).core (alike_emptied j) (kept_alike l k j (alike_drive k _) h)
does_kept l k Wt c g h p = kept_alike l k (does k Wt c).core (alike_same k (does k Wt c).core (beats_calm (whole_value (given c)) k g).same) h
does_kept l k Tb c g h p = h
does_kept l k Te c g h p = h

performed_kept : (l : Ledger) (k : Core) (m : Mnemonic) (c : Command) → Good k → Kept l k → Passed (tests_of k (Some m) c) → Kept (enter_known l (Some m) c) (performed k (Some m) c).core
performed_kept l k m c g h p = by (asking m c) refl
  where
    by : (b : Bool) → asking m c ≡ b → Kept (enter_unless b l m c) (unless_asking b k m c).core
    by true e = h
    by false e = does_kept l k m c g h (passing k m c e p)

-- a step, and what the ledger is fed of it
pub step_kept : (l : Ledger) (w : World) (c : Command) → Good w.core → Kept l w.core → Kept (feed l c (was_refused (step w c).outcome)) (step w c).world.core
step_kept l w c g h =
    let P : Option _ → Type 0 = λ o. Kept (feed l c (was_refused (settled w c o).outcome)) (settled w c o).world.core in
    elim (judged (tests w.core c)) [ inl r ↦ subst P (sym r.1) h | inr r ↦ subst P (sym r.1) (accepted_kept c.mnemonic refl r.0) ]
  where
    accepted_kept : (o : Option Mnemonic) → c.mnemonic ≡ o → Passed (tests_of w.core o c) → Kept (feed l c (was_refused (accepted w o c).outcome)) (accepted w o c).world.core
    accepted_kept None e p = absurd p.0
    accepted_kept (Some m) e p = subst (λ o. Kept (enter_known l o c) (performed w.core o c).core) (sym e) (performed_kept l w.core m c g h p)

-- ---- runs

pub ledger_append : (l : Ledger) (es fs : List (Command × Bool)) → ledger l (es ++ fs) ≡ ledger (ledger l es) fs
ledger_append l [] fs = refl
ledger_append l (e ∷ es) fs = ledger_append (feed l e.0 e.1) es fs

pub commands_kept : (l : Ledger) (w : World) (cs : List Command) → Good w.core → Kept l w.core → Kept (ledger l (protocol w cs)) (run_commands w cs).core
commands_kept l w [] g h = h
commands_kept l w (c ∷ cs) g h = commands_kept (feed l c (was_refused (step w c).outcome)) (step w c).world cs (step_good w c g) (step_kept l w c g h)

pub beats_kept : (l : Ledger) (n : ℕ) (k : Core) → Good k → Kept l k → Kept l (beats n k).core
beats_kept l n k g h = kept_alike l k (beats n k).core (alike_same k (beats n k).core (beats_calm n k g).same) h

line_kept : (l : Ledger) (w : World) (line : List ℕ) (b : Bool) → Good w.core → Kept l w.core → Kept (ledger l (line_protocol w line b)) (line_world w line b).core
line_kept l w line true g h = h
line_kept l w line false g h = commands_kept l w (commands_of line) g h

taken_line_kept : (l : Ledger) (w : World) (r : Result (List ℕ × ℕ) Refusal) → Good w.core → Kept l w.core → Kept (ledger l (taken_protocol w r)) (after_line w r).core
taken_line_kept l w (Err r) g h = h
taken_line_kept l w (Ok line) g h = line_kept l w line.0 (too_long line.0) g h

call_kept : (l : Ledger) (w : World) (x : Call) → Good w.core → Kept l w.core → Kept (ledger l (call_protocol w x)) (called w x).core
call_kept l w (line_sent bytes room) g h = taken_line_kept l w (line_taken w bytes room) g h
call_kept l w (ticks_made n) g h = picked (matches w.core.desk.axes w.core.drive) (λ (v : World). Kept l v.core) _ _ (picked (leb 1 n && leb n 60000) (λ (v : World). Kept l v.core) _ _ (beats_kept l n w.core g h) h) h
call_kept l w (error_asked n) g h = h

run_kept : (l : Ledger) (w : World) (xs : List Call) → Good w.core → Kept l w.core → Kept (ledger l (calls_protocol w xs)) (run w xs).core
run_kept l w [] g h = h
run_kept l w (x ∷ xs) g h =
    subst (λ m. Kept m (run (called w x) xs).core) (sym (ledger_append l (call_protocol w x) (calls_protocol (called w x) xs)))
    (run_kept (ledger l (call_protocol w x)) (called w x) xs (call_keeps Good step_good beats_good w x g) (call_kept l w x g h))

pub state_kept : (l : Ledger) (w : World) (xs : List Call) (cs : List Command) → Good w.core → Good (run w xs).core → Kept l w.core → Kept (ledger l (calls_protocol w xs ++ protocol (run w xs) cs)) (state w xs cs).core
state_kept l w xs cs g r h =
    subst (λ m. Kept m (state w xs cs).core) (sym (ledger_append l (calls_protocol w xs) (protocol (run w xs) cs)))
    (commands_kept (ledger l (calls_protocol w xs)) (run w xs) cs r (run_kept l w xs g h))

-- ---- a proper start carries what is due

pub proper_due : (l : Ledger) (k : Core) → Kept l k → (n : ℕ) (z : ℤ) (q : Profile) → ProperStart k n z q → q ≡ due l n
proper_due l k h n z q p =
    elim p.due as (λ _. q ≡ due l n) [
      | inl i ↦ by_group i.0 i.1.0 i.1.1
      | inr i ↦ let e = in_none l h.single n (λ g t. i.0 (suc g) (subst (λ ms. T (has n ms)) (sym (h.agree.members (suc g))) t)) in i.1 ∙ h.agree.own n ∙ sym (ap (λ j. cond (eqb j 0) (l.own n) (l.shared j)) e)
    ]
  where
    by_group : (g : ℕ) → T (has n (members k g)) → q ≡ (group k g).profile → q ≡ due l n
    by_group zero t e = absurd t
    by_group (suc g) t e =
        let i : l.group n ≡ suc g = eqb→eq (l.group n) (suc g) (subst T (ap (has n) (h.agree.members (suc g)) ∙ h.single g n) t) in
        e ∙ h.agree.shared (suc g) ∙ sym (ap (λ b. cond b (l.own n) (l.shared (suc g))) (ne_eqb (suc g) 0 (λ q. omega arith))) ∙ sym (ap (λ j. cond (eqb j 0) (l.own n) (l.shared j)) i)
