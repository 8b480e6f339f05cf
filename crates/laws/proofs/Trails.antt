-- What beats leave alone, what a start must be, and what holds of every deed and of what the drive is told on the way.
use Rattle.std.proofs.Common.{◌≡◌, ℕ, zero, suc, ◌≤◌, Bool, true, false, cond, ◌&&◌, T, eqb, leb, ◌⊎◌, List, [], ◌∷◌, ◌++◌, length, drop, ℤ, nat_abs, sym, refl, ap, ◌∙◌, subst, inl, inr, arith, le→leb}
use lib.Dec.{eqb_refl}
use Rattle.std.proofs.lemmas.Bool.Decides.{nat_tests}
use Rattle.std.specs.List.{AllByRecursion}
use Rattle.drive.specs.declared.profile.Profile.{Profile}
use Rattle.drive.specs.Model.{Axis, start_axis, at_rest}
use Rattle.drive.specs.Calls.{Told, power_on, power_off, start, stop, set_position, tick, done, replay}
use Rattle.groups.specs.Groups.{free_group, with_waypoints, has}
use Rattle.desk.specs.Tables.{row_or}
use Rattle.desk.specs.Axes.{no_axis}
use Rattle.desk.specs.Desks.{DeskModel, at_group, waypoint_taken, waypoints_emptied}
use Rattle.rules.specs.World.{Core, settings, group, members, axis_at, powered, no_drive_axis, with_desk, numbers, group_count}
use Rattle.rules.specs.Deeds.{Trail, quiet, tell, note, and_then, starts, all_rest, all_powered, waits, first_waypoint, set_off, go_on, advance, advance_all, beat, beats, wait}
use Rattle.laws.specs.Laws.{last_profile}
use Rattle.laws.proofs.Basics.{alter_length, alter_keeps, alter_gives, at_alter, done_keeps, Touches, effect, replay_keeps, replay_count, replay_append, picked, all_weaker, all_append, all_pass_has, has_first, has_later, true_of}
use Rattle.laws.proofs.Good.{most, Inside, Fit, Good, Allowed, tell_good, in_reach, group_good, waypoints_good, emptied_good, fit_drop}

-- ---- what beats leave alone

pub record Same (j k : Core) : Type 0 where
  pub axes : k.desk.axes ≡ j.desk.axes
  pub members : (g : ℕ) → members k g ≡ members j g
  pub shared : (g : ℕ) → (group k g).profile ≡ (group j g).profile
  pub count : length k.drive ≡ length j.drive
  pub power : (n : ℕ) → powered k n ≡ powered j n
  pub groups : group_count k ≡ group_count j

pub same_refl : (k : Core) → Same k k
same_refl k = record { axes = refl; members = λ g. refl; shared = λ g. refl; count = refl; power = λ n. refl; groups = refl }

pub same_sym : (j k : Core) → Same j k → Same k j
same_sym j k h = record { axes = sym h.axes; members = λ g. sym (h.members g); shared = λ g. sym (h.shared g); count = sym h.count; power = λ n. sym (h.power n); groups = sym h.groups }

pub same_trans : (i j k : Core) → Same i j → Same j k → Same i k
same_trans i j k h u = record { axes = u.axes ∙ h.axes; members = λ g. u.members g ∙ h.members g; shared = λ g. u.shared g ∙ h.shared g; count = u.count ∙ h.count; power = λ n. u.power n ∙ h.power n; groups = u.groups ∙ h.groups }

-- ---- starts as they should be

-- the figures of a start of the axis n, by the desk: those of a group that it is a member of, or its own where it is a member of none
abbrev pub Due : Core → ℕ → Profile → Type 0
Due k n q = ((g : ℕ) × (T (has n (members k g)) × (q ≡ (group k g).profile))) ⊎ (((g : ℕ) → T (has n (members k g)) → ⊥) × (q ≡ (settings k n).own))

pub record ProperStart (k : Core) (n : ℕ) (z : ℤ) (q : Profile) : Type 0 where
  pub due : Due k n q
  pub inside : Inside (settings k n) z
  pub power : T (powered k n)
  pub low : 1 ≤ n
  pub high : n ≤ length k.drive

abbrev pub Proper : Core → Told → Type 0
Proper k (power_on n) = Unit {0}
Proper k (power_off n) = Unit {0}
Proper k (start n z q) = ProperStart k n z q
Proper k (stop n) = Unit {0}
Proper k (set_position n z) = Unit {0}
Proper k tick = Unit {0}

start_back : (j k : Core) → Same j k → (n : ℕ) (z : ℤ) (q : Profile) → ProperStart k n z q → ProperStart j n z q
start_back j k s n z q p =
    record {
      due = elim p.due as (λ _. Due j n q) [
        | inl h ↦ inl (h.0, (subst (λ ms. T (has n ms)) (s.members h.0) h.1.0, h.1.1 ∙ s.shared h.0))
        | inr h ↦ inr ((λ g e. h.0 g (subst (λ ms. T (has n ms)) (sym (s.members g)) e)), h.1 ∙ ap (λ xs. (row_or no_axis n xs).own) s.axes)
      ];
      inside = subst (λ xs. Inside (row_or no_axis n xs) z) s.axes p.inside;
      power = subst T (s.power n) p.power;
      low = p.low;
      high = subst (λ m. n ≤ m) s.count p.high;
    }

pub proper_back : (j k : Core) → Same j k → (t : Told) → Proper k t → Proper j t
proper_back j k s (power_on n) p = tt
proper_back j k s (power_off n) p = tt
proper_back j k s (start n z q) p = start_back j k s n z q p
proper_back j k s (stop n) p = tt
proper_back j k s (set_position n z) p = tt
proper_back j k s tick p = tt

-- ---- deeds

pub record Fine (k : Core) (t : Trail) : Type 0 where
  pub whole : t.core.drive ≡ replay t.told k.drive
  pub good : Good t.core
  pub proper : AllByRecursion (Proper k) t.told
  pub mosts : (n : ℕ) → most (settings t.core n) ≡ most (settings k n)
  pub stays : (n : ℕ) → (axis_at t.core n).profile ≡ last_profile n t.told (axis_at k n).profile

pub quiet_fine : (k : Core) → Good k → Fine k (quiet k)
quiet_fine k g = record { whole = refl; good = g; proper = tt; mosts = λ n. refl; stays = λ n. refl }

pub note_fine : (k : Core) (d : DeskModel) → Good (with_desk d k) → ((n : ℕ) → most (row_or no_axis n d.axes) ≡ most (settings k n)) → Fine k (note d k)
note_fine k d g m = record { whole = refl; good = g; proper = tt; mosts = m; stays = λ n. refl }

last_append : (n : ℕ) (ts us : List Told) (q : Profile) → last_profile n (ts ++ us) q ≡ last_profile n us (last_profile n ts q)
last_append n [] us q = refl
last_append n (power_on m ∷ ts) us q = last_append n ts us q
last_append n (power_off m ∷ ts) us q = last_append n ts us q
last_append n (start m z p ∷ ts) us q = last_append n ts us (cond (eqb n m) p q)
last_append n (stop m ∷ ts) us q = last_append n ts us q
last_append n (set_position m z ∷ ts) us q = last_append n ts us q
last_append n (tick ∷ ts) us q = last_append n ts us q

-- one deed, and another after it
pub then_fine : (k : Core) (t : Trail) (next : Core → Trail) → Fine k t → Fine t.core (next t.core) → AllByRecursion (Proper k) (next t.core).told → Fine k (and_then t next)
then_fine k t next h u p =
    let v = next t.core in
    record {
      whole = u.whole ∙ ap (replay v.told) h.whole ∙ sym (replay_append t.told v.told k.drive);
      good = u.good;
      proper = all_append (Proper k) t.told v.told h.proper p;
      mosts = λ n. u.mosts n ∙ h.mosts n;
      stays = λ n. u.stays n ∙ ap (last_profile n v.told) (h.stays n) ∙ sym (last_append n t.told v.told (axis_at k n).profile);
    }

-- ---- what is told

-- profiles, where nothing is started
abbrev pub NoStart : Told → Type 0
NoStart (power_on n) = Unit {0}
NoStart (power_off n) = Unit {0}
NoStart (start n z q) = ⊥
NoStart (stop n) = Unit {0}
NoStart (set_position n z) = Unit {0}
NoStart tick = Unit {0}

last_none : (n : ℕ) (ts : List Told) (q : Profile) → AllByRecursion NoStart ts → last_profile n ts q ≡ q
last_none n [] q h = refl
last_none n (power_on m ∷ ts) q h = last_none n ts q h.1
last_none n (power_off m ∷ ts) q h = last_none n ts q h.1
last_none n (start m z p ∷ ts) q h = absurd h.0
last_none n (stop m ∷ ts) q h = last_none n ts q h.1
last_none n (set_position m z ∷ ts) q h = last_none n ts q h.1
last_none n (tick ∷ ts) q h = last_none n ts q h.1

profile_told : (q : ℕ → Profile) (t : Told) → NoStart t → (k : ℕ) (a : Axis) → Touches t k → a.profile ≡ q k → (effect t a).profile ≡ q k
profile_told q (power_on n) w k a e h = h
profile_told q (power_off n) w k a e h = h
profile_told q (start n z p) w k a e h = absurd w
profile_told q (stop n) w k a e h = h
profile_told q (set_position n z) w k a e h = let P : Axis → Type 0 = λ b. b.profile ≡ q k in picked (at_rest a) P _ _ (picked (leb (nat_abs z) a.reach) P _ _ h h) h
profile_told q tick w k a e h = h

none_stays : (ts : List Told) (xs : List Axis) → AllByRecursion NoStart ts → (n : ℕ) → (row_or no_drive_axis n (replay ts xs)).profile ≡ last_profile n ts (row_or no_drive_axis n xs).profile
none_stays ts xs h n =
    let q : ℕ → Profile = λ m. (row_or no_drive_axis m xs).profile in
    replay_keeps (λ m a. a.profile ≡ q m) ts xs (all_weaker NoStart _ (profile_told q) ts h) (λ m. refl) n ∙ sym (last_none n ts (q n) h)

none_proper : (k : Core) (t : Told) → NoStart t → Proper k t
none_proper k (power_on n) h = tt
none_proper k (power_off n) h = tt
none_proper k (start n z q) h = absurd h
none_proper k (stop n) h = tt
none_proper k (set_position n z) h = tt
none_proper k tick h = tt

-- the drive is told things that are no starts
pub tell_fine : (k : Core) (ts : List Told) → Good k → AllByRecursion (Allowed (settings k)) ts → AllByRecursion NoStart ts → Fine k (tell ts k)
tell_fine k ts g a h = record { whole = refl; good = tell_good k ts g a; proper = all_weaker NoStart (Proper k) (none_proper k) ts h; mosts = λ n. refl; stays = none_stays ts k.drive h }

-- ---- starts

-- the drive does not refuse it
pub record CanStart (xs : List Axis) (n : ℕ) (z : ℤ) : Type 0 where
  pub low : 1 ≤ n
  pub high : n ≤ length xs
  pub power : T (row_or no_drive_axis n xs).powered
  pub reach : nat_abs z ≤ (row_or no_drive_axis n xs).reach

abbrev Can : List Axis → List ℕ → List ℤ → Type 0
Can xs [] zs = Unit {0}
Can xs (n ∷ ns) [] = Unit {0}
Can xs (n ∷ ns) (z ∷ zs) = CanStart xs n z × Can xs ns zs

kept_by_start : (xs : List Axis) (n : ℕ) (z : ℤ) (q : Profile) (m : ℕ) → ((row_or no_drive_axis m (done (start n z q) xs)).powered ≡ (row_or no_drive_axis m xs).powered) × ((row_or no_drive_axis m (done (start n z q) xs)).reach ≡ (row_or no_drive_axis m xs).reach)
kept_by_start xs n z q =
    let P : ℕ → Axis → Type 0 = λ m a. (a.powered ≡ (row_or no_drive_axis m xs).powered) × (a.reach ≡ (row_or no_drive_axis m xs).reach) in
    done_keeps P (start n z q) xs (λ m. (refl, refl))
    (λ m e. let a = row_or no_drive_axis m xs in picked a.powered (P m) _ _ (picked (leb (nat_abs z) a.reach) (P m) _ _ (refl, refl) (refl, refl)) (refl, refl))

can_later : (xs : List Axis) (n : ℕ) (z : ℤ) (q : Profile) (ns : List ℕ) (zs : List ℤ) → Can xs ns zs → Can (done (start n z q) xs) ns zs
can_later xs n z q [] zs h = tt
can_later xs n z q (m ∷ ns) [] h = tt
can_later xs n z q (m ∷ ns) (y ∷ zs) h =
    let k = kept_by_start xs n z q m in (
      record {
        low = h.0.low;
        high = subst (λ c. m ≤ c) (sym (replay_count (start n z q ∷ []) xs)) h.0.high;
        power = subst T (sym k.0) h.0.power;
        reach = subst (λ r. nat_abs y ≤ r) (sym k.1) h.0.reach;
      },
      can_later xs n z q ns zs h.1,
    )

started_so : (a : Axis) (z : ℤ) (q : Profile) → T a.powered → nat_abs z ≤ a.reach → (start_axis z q a).1.profile ≡ q
started_so a z q on near =
    let p = true_of a.powered on in
    let r = true_of (leb (nat_abs z) a.reach) (le→leb (nat_abs z) a.reach near) in
    cc

started_profile : (xs : List Axis) (n : ℕ) (z : ℤ) (q : Profile) → CanStart xs n z → (m : ℕ) → (row_or no_drive_axis m (done (start n z q) xs)).profile ≡ cond (eqb m n) q (row_or no_drive_axis m xs).profile
started_profile xs n z q h m =
    subst (λ ys. (row_or no_drive_axis m ys).profile ≡ cond (eqb m n) q (row_or no_drive_axis m xs).profile) (sym (at_alter (start_axis z q) n xs))
    (alter_gives (λ j a. a.profile ≡ cond (eqb j n) q (row_or no_drive_axis j xs).profile) (λ a. (start_axis z q a).1) n xs no_drive_axis h.low h.high
    (λ j e. grind (arith, nat_tests))
    (let a = row_or no_drive_axis n xs in let e = true_of (eqb n n) (eqb_refl n) in started_so a z q h.power h.reach ∙ sym (ap (λ b. cond b q a.profile) e)) m)

starts_stay : (q : Profile) (ns : List ℕ) (zs : List ℤ) (xs : List Axis) → Can xs ns zs → (m : ℕ) → (row_or no_drive_axis m (replay (starts q ns zs) xs)).profile ≡ last_profile m (starts q ns zs) (row_or no_drive_axis m xs).profile
starts_stay q [] zs xs h m = refl
starts_stay q (n ∷ ns) [] xs h m = refl
starts_stay q (n ∷ ns) (z ∷ zs) xs h m =
    starts_stay q ns zs (done (start n z q) xs) (can_later xs n z q ns zs h.1) m
    ∙ ap (last_profile m (starts q ns zs)) (started_profile xs n z q h.0 m)

-- the places of starts, one by one
abbrev pub Propers : Core → Profile → List ℕ → List ℤ → Type 0
Propers k q [] zs = Unit {0}
Propers k q (n ∷ ns) [] = Unit {0}
Propers k q (n ∷ ns) (z ∷ zs) = ProperStart k n z q × Propers k q ns zs

starts_proper : (k : Core) (q : Profile) (ns : List ℕ) (zs : List ℤ) → Propers k q ns zs → AllByRecursion (Proper k) (starts q ns zs)
starts_proper k q [] zs h = tt
starts_proper k q (n ∷ ns) [] h = tt
starts_proper k q (n ∷ ns) (z ∷ zs) h = (h.0, starts_proper k q ns zs h.1)

starts_allowed : (k : Core) (q : Profile) (ns : List ℕ) (zs : List ℤ) → Propers k q ns zs → AllByRecursion (Allowed (settings k)) (starts q ns zs)
starts_allowed k q [] zs h = tt
starts_allowed k q (n ∷ ns) [] h = tt
starts_allowed k q (n ∷ ns) (z ∷ zs) h = (h.0.inside, starts_allowed k q ns zs h.1)

starts_can : (k : Core) → Good k → (q : Profile) (ns : List ℕ) (zs : List ℤ) → Propers k q ns zs → Can k.drive ns zs
starts_can k g q [] zs h = tt
starts_can k g q (n ∷ ns) [] h = tt
starts_can k g q (n ∷ ns) (z ∷ zs) h =
    let a = g.each n in let p = h.0 in (
      record { low = p.low; high = p.high; power = p.power; reach = in_reach (axis_at k n).reach _ _ z a.left_reach a.right_reach p.inside.low p.inside.high },
      starts_can k g q ns zs h.1,
    )

-- the drive is told starts that are proper
pub starts_fine : (k : Core) (q : Profile) (ns : List ℕ) (zs : List ℤ) → Good k → Propers k q ns zs → Fine k (tell (starts q ns zs) k)
starts_fine k q ns zs g h =
    record {
      whole = refl;
      good = tell_good k (starts q ns zs) g (starts_allowed k q ns zs h);
      proper = starts_proper k q ns zs h;
      mosts = λ n. refl;
      stays = starts_stay q ns zs k.drive (starts_can k g q ns zs h);
    }

starts_power : (q : Profile) (ns : List ℕ) (zs : List ℤ) (xs : List Axis) (m : ℕ) → (row_or no_drive_axis m (replay (starts q ns zs) xs)).powered ≡ (row_or no_drive_axis m xs).powered
starts_power q [] zs xs m = refl
starts_power q (n ∷ ns) [] xs m = refl
starts_power q (n ∷ ns) (z ∷ zs) xs m = starts_power q ns zs (done (start n z q) xs) m ∙ (kept_by_start xs n z q m).0

pub starts_same : (k : Core) (q : Profile) (ns : List ℕ) (zs : List ℤ) → Same k (tell (starts q ns zs) k).core
starts_same k q ns zs = record { axes = refl; members = λ g. refl; shared = λ g. refl; count = replay_count (starts q ns zs) k.drive; power = starts_power q ns zs k.drive; groups = refl }

-- the starts of a group that has power
pub group_proper : (k : Core) (g : ℕ) → Good k → (ns : List ℕ) (zs : List ℤ) → ((n : ℕ) → T (has n ns) → T (has n (members k g))) → ((n : ℕ) → T (has n ns) → T (powered k n)) → Fit (settings k) ns zs → Propers k (group k g).profile ns zs
group_proper k g good [] zs sub on f = tt
group_proper k g good (n ∷ ns) [] sub on f = tt
group_proper k g good (n ∷ ns) (z ∷ zs) sub on f =
    let e = sub n (has_first n ns) in (
      record {
        due = inl (g, (e, refl));
        inside = f.0;
        power = on n (has_first n ns);
        low = (good.groups g).there_low n e;
        high = subst (λ c. n ≤ c) good.lengths ((good.groups g).there_high n e);
      },
      group_proper k g good ns zs (λ m q. sub m (has_later m n ns q)) (λ m q. on m (has_later m n ns q)) f.1,
    )

-- ---- beats

pub record Calm (k : Core) (t : Trail) : Type 0 where
  pub fine : Fine k t
  pub same : Same k t.core

quiet_calm : (k : Core) → Good k → Calm k (quiet k)
quiet_calm k g = record { fine = quiet_fine k g; same = same_refl k }

pub then_calm : (k : Core) (t : Trail) (next : Core → Trail) → Calm k t → (Good t.core → Calm t.core (next t.core)) → Calm k (and_then t next)
then_calm k t next h f =
    let j = t.core in
    let u = f h.fine.good in
    record {
      fine = then_fine k t next h.fine u.fine (all_weaker (Proper j) (Proper k) (proper_back k j h.same) (next j).told u.fine.proper);
      same = same_trans k j (next j).core h.same u.same;
    }

-- other waypoints
waypoints_same : (k : Core) (f : List (List ℤ) → List (List ℤ)) (g : ℕ) → Same k (with_desk (at_group (with_waypoints f) g k.desk) k)
waypoints_same k f g =
    record {
      axes = refl;
      members = alter_keeps (λ j x. x.members ≡ members k j) (with_waypoints f) g k.desk.groups free_group (λ j. refl) refl;
      shared = alter_keeps (λ j x. x.profile ≡ (group k j).profile) (with_waypoints f) g k.desk.groups free_group (λ j. refl) refl;
      count = refl;
      power = λ n. refl;
      groups = alter_length (with_waypoints f) g k.desk.groups;
    }

first_proper : (k : Core) (g : ℕ) (ws : List (List ℤ)) → Good k → T (all_powered k (members k g)) → AllByRecursion (Fit (settings k) (members k g)) ws → Propers k (group k g).profile (members k g) (first_waypoint ws)
first_proper k g [] good on h = nothing (members k g)
  where
    nothing : (ns : List ℕ) → Propers k (group k g).profile ns []
    nothing [] = tt
    nothing (n ∷ ns) = tt
first_proper k g (w ∷ ws) good on h = group_proper k g good (members k g) w (λ n e. e) (λ n e. all_pass_has (powered k) (members k g) n on e) h.0

propers_back : (j k : Core) → Same j k → (q : Profile) (ns : List ℕ) (zs : List ℤ) → Propers k q ns zs → Propers j q ns zs
propers_back j k s q [] zs h = tt
propers_back j k s q (n ∷ ns) [] h = tt
propers_back j k s q (n ∷ ns) (z ∷ zs) h = (start_back j k s n z q h.0, propers_back j k s q ns zs h.1)

set_off_calm : (b : Bool) (g : ℕ) (k : Core) → Good k → (T b → T (all_powered k (members k g))) → Calm k (set_off b g k)
set_off_calm true g k good on =
    let j = with_desk (waypoint_taken g k.desk).1 k in
    let s = waypoints_same k (drop 1) g in
    let q = (group k g).profile in
    let ns = members k g in
    let zs = first_waypoint (group k g).waypoints in
    let taken : Calm k (note (waypoint_taken g k.desk).1 k) =
    record {
      fine = note_fine k (waypoint_taken g k.desk).1 (group_good k (with_waypoints (drop 1)) g good (waypoints_good k (drop 1) g good (fit_drop (settings k) ns (group k g).waypoints (good.groups g).waiting) (λ e. ap (drop 1) ((good.groups g).idle e)))) (λ n. refl);
      same = s;
    }
    in
    then_calm k (note (waypoint_taken g k.desk).1 k) (λ i. tell (starts q ns zs) i) taken
    (λ good2. record { fine = starts_fine j q ns zs good2 (propers_back j k (same_sym k j s) q ns zs (first_proper k g (group k g).waypoints good (on tt) (good.groups g).waiting)); same = starts_same j q ns zs })
set_off_calm false g k good on = record { fine = note_fine k (waypoints_emptied g k.desk) (emptied_good k g good) (λ n. refl); same = waypoints_same k (λ ws. []) g }

go_on_calm : (b : Bool) (g : ℕ) (k : Core) → Good k → Calm k (go_on b g k)
go_on_calm true g k good = set_off_calm (all_powered k (members k g)) g k good (λ h. h)
go_on_calm false g k good = quiet_calm k good

advance_all_calm : (gs : List ℕ) (k : Core) → Good k → Calm k (advance_all gs k)
advance_all_calm [] k good = quiet_calm k good
advance_all_calm (g ∷ gs) k good = then_calm k (advance g k) (advance_all gs) (go_on_calm (all_rest k (members k g) && waits k g) g k good) (advance_all_calm gs (advance g k).core)

tick_calm : (k : Core) → Good k → Calm k (tell (tick ∷ []) k)
tick_calm k good =
    record {
      fine = tell_fine k (tick ∷ []) good (tt, tt) (tt, tt);
      same = record {
        axes = refl;
        members = λ g. refl;
        shared = λ g. refl;
        count = replay_count (tick ∷ []) k.drive;
        power = done_keeps (λ n a. a.powered ≡ powered k n) tick k.drive (λ n. refl) (λ n e. refl);
        groups = refl;
      };
    }

pub beat_calm : (k : Core) → Good k → Calm k (beat k)
beat_calm k good = then_calm k (tell (tick ∷ []) k) (advance_all (numbers (group_count k))) (tick_calm k good) (advance_all_calm (numbers (group_count k)) (tell (tick ∷ []) k).core)

pub beats_calm : (n : ℕ) (k : Core) → Good k → Calm k (beats n k)
beats_calm zero k good = quiet_calm k good
beats_calm (suc n) k good = then_calm k (beat k) (beats n) (beat_calm k good) (beats_calm n (beat k).core)

pub wait_calm : (n : ℕ) (b : Bool) (done : Core → Bool) (k : Core) → Good k → Calm k (wait n b done k)
wait_calm zero b done k good = quiet_calm k good
wait_calm (suc n) true done k good = quiet_calm k good
wait_calm (suc n) false done k good = then_calm k (beat k) (λ j. wait n (done j) done j) (beat_calm k good) (wait_calm n (done (beat k).core) done (beat k).core)
