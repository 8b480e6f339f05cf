-- What holds at every moment of a run.
use Rattle.std.proofs.Common.{◌≡◌, ℕ, ◌≤◌, T, leb, List, [], ◌∷◌, length, drop, ℤ, pos, neg_ℤ, nat_abs, ◌≤ℤ◌, sym, refl, ◌∙◌, subst, arith}
use lib.Signed.{le_z}
use Rattle.std.proofs.lemmas.Int.{ints}
use Rattle.std.specs.List.{AllByRecursion}
use Rattle.drive.specs.declared.profile.Profile.{Profile}
use Rattle.drive.specs.Model.{Axis, Fair, start_axis, stop_axis, power_on_axis, power_off_axis, set_position_axis, tick_axis, at_rest}
use Rattle.drive.specs.Calls.{Told, power_on, power_off, start, stop, set_position, tick, replay}
use Rattle.drive.proofs.Numbers.{is_inside}
use Rattle.groups.specs.Groups.{GroupModel, free_group, with_waypoints, has}
use Rattle.desk.specs.declared.axis_settings.AxisSettings.{AxisSettings}
use Rattle.desk.specs.Tables.{there, row_or, alter}
use Rattle.desk.specs.Axes.{no_axis}
use Rattle.desk.specs.Desks.{on_axis, at_group, on_group, in_use, waypoints_emptied}
use Rattle.rules.specs.Deeds.{all_emptied}
use Rattle.rules.specs.World.{Core, settings, group, members, axis_at, with_desk, with_drive}
use Rattle.laws.specs.Laws.{AtMost}
use Rattle.laws.proofs.Basics.{alter_length, alter_keeps, map_keeps, Touches, effect, replay_keeps, replay_count, picked, picked_when, all_weaker, has_first, has_later}

-- the maxima of an axis, as figures
abbrev pub most : AxisSettings → Profile
most s = record { velocity = s.max_velocity; acceleration = s.max_acceleration; deceleration = s.max_acceleration }

-- a place within the limits
pub record Inside (s : AxisSettings) (z : ℤ) : Type 0 where
  pub low : s.left ≤ℤ z
  pub high : z ≤ℤ s.right

-- of one axis: its settings and its meaning
pub record GoodAxis (s : AxisSettings) (a : Axis) : Type 0 where
  pub left_position : s.left ≤ℤ a.position
  pub position_right : a.position ≤ℤ s.right
  pub left_target : s.left ≤ℤ a.target
  pub target_right : a.target ≤ℤ s.right
  pub left_reach : neg_ℤ (pos a.reach) ≤ℤ s.left
  pub right_reach : s.right ≤ℤ pos a.reach
  pub own_most : AtMost s.own (most s)
  pub fair : (p t : ℤ) (q : Profile) → nat_abs p ≤ a.reach → nat_abs t ≤ a.reach → Fair p (a.travel p t q) t

-- the places of a waypoint lie within the limits of the members
abbrev pub Fit : (ℕ → AxisSettings) → List ℕ → List ℤ → Type 0
Fit s [] zs = Unit {0}
Fit s (n ∷ ns) [] = Unit {0}
Fit s (n ∷ ns) (z ∷ zs) = Inside (s n) z × Fit s ns zs

-- of one group
pub record GoodGroup (s : ℕ → AxisSettings) (count : ℕ) (g : GroupModel) : Type 0 where
  pub there_low : (n : ℕ) → T (has n g.members) → 1 ≤ n
  pub there_high : (n : ℕ) → T (has n g.members) → n ≤ count
  pub figures : (n : ℕ) → T (has n g.members) → AtMost g.profile (most (s n))
  pub waiting : AllByRecursion (Fit s g.members) g.waypoints
  pub idle : g.members ≡ [] → g.waypoints ≡ []

pub record Good (k : Core) : Type 0 where
  pub lengths : length k.desk.axes ≡ length k.drive
  pub each : (n : ℕ) → GoodAxis (settings k n) (axis_at k n)
  pub groups : (g : ℕ) → GoodGroup (settings k) (length k.desk.axes) (group k g)

-- ---- numbers

pub le_of : {a b : ℤ} → T (le_z a b) → a ≤ℤ b
le_of h = record { le = h }

pub at_most_refl : (p : Profile) → AtMost p p
at_most_refl p = omega arith

pub at_most_trans : (p q r : Profile) → AtMost p q → AtMost q r → AtMost p r
at_most_trans p q r h k = omega arith

pub in_reach : (r : ℕ) (l h z : ℤ) → neg_ℤ (pos r) ≤ℤ l → h ≤ℤ pos r → l ≤ℤ z → z ≤ℤ h → nat_abs z ≤ r
in_reach r l h z a b c d = is_inside z r (omega (arith, ints)) (omega (arith, ints))

-- ---- one axis, under what it is told

good_on : (s : AxisSettings) (a : Axis) → GoodAxis s a → GoodAxis s (power_on_axis a).1
good_on s a h = search

good_off : (s : AxisSettings) (a : Axis) → GoodAxis s a → GoodAxis s (power_off_axis a).1
good_off s a h = search

good_stop : (s : AxisSettings) (a : Axis) → GoodAxis s a → GoodAxis s (stop_axis a).1
good_stop s a h = search

good_start : (s : AxisSettings) (a : Axis) (z : ℤ) (q : Profile) → Inside s z → GoodAxis s a → GoodAxis s (start_axis z q a).1
good_start s a z q w h =
    picked a.powered (GoodAxis s) _ _ (picked (leb (nat_abs z) a.reach) (GoodAxis s) _ _ (record { left_position = h.left_position; position_right = h.position_right; left_target = w.low; target_right = w.high; left_reach = h.left_reach; right_reach = h.right_reach; own_most = h.own_most; fair = h.fair }) h) h

good_set : (s : AxisSettings) (a : Axis) (z : ℤ) → Inside s z → GoodAxis s a → GoodAxis s (set_position_axis z a).1
good_set s a z w h =
    picked (at_rest a) (GoodAxis s) _ _ (picked (leb (nat_abs z) a.reach) (GoodAxis s) _ _ (record { left_position = w.low; position_right = w.high; left_target = w.low; target_right = w.high; left_reach = h.left_reach; right_reach = h.right_reach; own_most = h.own_most; fair = h.fair }) h) h

good_tick : (s : AxisSettings) (a : Axis) → GoodAxis s a → GoodAxis s (tick_axis a)
good_tick s a h =
    let r = a.reach in
    let f = h.fair a.position a.target a.profile (in_reach r _ _ a.position h.left_reach h.right_reach h.left_position h.position_right) (in_reach r _ _ a.target h.left_reach h.right_reach h.left_target h.target_right) in
    grind (arith, ints, f.up, f.down)

-- what may be told: a start, or a new position, within the limits
abbrev pub Allowed : (ℕ → AxisSettings) → Told → Type 0
Allowed s (power_on n) = Unit {0}
Allowed s (power_off n) = Unit {0}
Allowed s (start n z q) = Inside (s n) z
Allowed s (stop n) = Unit {0}
Allowed s (set_position n z) = Inside (s n) z
Allowed s tick = Unit {0}

good_told : (s : ℕ → AxisSettings) (t : Told) → Allowed s t → (k : ℕ) (a : Axis) → Touches t k → GoodAxis (s k) a → GoodAxis (s k) (effect t a)
good_told s (power_on n) w k a e h = good_on (s k) a h
good_told s (power_off n) w k a e h = good_off (s k) a h
good_told s (start n z q) w k a e h = good_start (s k) a z q (subst (λ m. Inside (s m) z) e w) h
good_told s (stop n) w k a e h = good_stop (s k) a h
good_told s (set_position n z) w k a e h = good_set (s k) a z (subst (λ m. Inside (s m) z) e w) h
good_told s tick w k a e h = good_tick (s k) a h

pub tell_good : (k : Core) (ts : List Told) → Good k → AllByRecursion (Allowed (settings k)) ts → Good (with_drive (replay ts k.drive) k)
tell_good k ts g h =
    record {
      lengths = g.lengths ∙ sym (replay_count ts k.drive);
      each = replay_keeps (λ n a. GoodAxis (settings k n) a) ts k.drive (all_weaker (Allowed (settings k)) _ (good_told (settings k)) ts h) g.each;
      groups = g.groups;
    }

-- ---- waypoints, where limits stay

fit_on : (s u : ℕ → AxisSettings) (ns : List ℕ) → ((n : ℕ) → T (has n ns) → (z : ℤ) → Inside (s n) z → Inside (u n) z) → (zs : List ℤ) → Fit s ns zs → Fit u ns zs
fit_on s u [] f zs h = tt
fit_on s u (n ∷ ns) f [] h = tt
fit_on s u (n ∷ ns) f (z ∷ zs) h = (f n (has_first n ns) z h.0, fit_on s u ns (λ m e. f m (has_later m n ns e)) zs h.1)

-- a group under other settings of axes: the maxima stay, and the limits of members
pub group_on : (s u : ℕ → AxisSettings) (count : ℕ) (g : GroupModel) → ((n : ℕ) → most (u n) ≡ most (s n)) → ((n : ℕ) → T (has n g.members) → (z : ℤ) → Inside (s n) z → Inside (u n) z) → GoodGroup s count g → GoodGroup u count g
group_on s u count g m f h =
    record {
      there_low = h.there_low;
      there_high = h.there_high;
      figures = λ n e. subst (AtMost g.profile) (sym (m n)) (h.figures n e);
      waiting = all_weaker (Fit s g.members) (Fit u g.members) (fit_on s u g.members f) g.waypoints h.waiting;
      idle = h.idle;
    }

-- ---- the desk changed

-- the settings of one axis: its maxima stay, and its limits unless it is a member of no group
pub axis_good : (k : Core) (f : AxisSettings → AxisSettings) (n : ℕ) → Good k → GoodAxis (f (settings k n)) (axis_at k n) → ((s : AxisSettings) → most (f s) ≡ most s) → ((g : ℕ) → T (has n (members k g)) → (z : ℤ) → Inside (settings k n) z → Inside (f (settings k n)) z) → Good (with_desk (on_axis f n k.desk).1 k)
axis_good k f n g here m stay =
    picked (there n k.desk.axes) (λ d. Good (with_desk d k)) _ _
    (let axes = alter f n k.desk.axes in
    record {
      lengths = alter_length f n k.desk.axes ∙ g.lengths;
      each = alter_keeps (λ j s. GoodAxis s (axis_at k j)) f n k.desk.axes no_axis g.each here;
      groups = λ h. subst (λ c. GoodGroup (λ j. row_or no_axis j axes) c (group k h)) (sym (alter_length f n k.desk.axes))
          (group_on (settings k) (λ j. row_or no_axis j axes) (length k.desk.axes) (group k h)
          (alter_keeps (λ j s. most s ≡ most (settings k j)) f n k.desk.axes no_axis (λ j. refl) (m (settings k n)))
          (alter_keeps (λ j s. T (has j (members k h)) → (z : ℤ) → Inside (settings k j) z → Inside s z) f n k.desk.axes no_axis (λ j e z i. i) (stay h))
          (g.groups h));
    })
    g

-- one group
pub group_good : (k : Core) (f : GroupModel → GroupModel) (n : ℕ) → Good k → GoodGroup (settings k) (length k.desk.axes) (f (group k n)) → Good (with_desk (at_group f n k.desk) k)
group_good k f n g here = record { lengths = g.lengths; each = g.each; groups = alter_keeps (λ j x. GoodGroup (settings k) (length k.desk.axes) x) f n k.desk.groups free_group g.groups here }

-- one that has members
pub on_group_good : (k : Core) (f : GroupModel → GroupModel) (n : ℕ) → Good k → (T (in_use n k.desk) → GoodGroup (settings k) (length k.desk.axes) (f (group k n))) → Good (with_desk (on_group f n k.desk).1 k)
on_group_good k f n g here = picked_when (in_use n k.desk) (λ d. Good (with_desk d k)) _ _ (λ u. group_good k f n g (here u)) g

-- with other waypoints that fit
pub waypoints_good : (k : Core) (f : List (List ℤ) → List (List ℤ)) (n : ℕ) → Good k → AllByRecursion (Fit (settings k) (members k n)) (f (group k n).waypoints) → (members k n ≡ [] → f (group k n).waypoints ≡ []) → GoodGroup (settings k) (length k.desk.axes) (with_waypoints f (group k n))
waypoints_good k f n g h i = record { there_low = (g.groups n).there_low; there_high = (g.groups n).there_high; figures = (g.groups n).figures; waiting = h; idle = i }

pub free_good : (s : ℕ → AxisSettings) (count : ℕ) → GoodGroup s count free_group
free_good s count = record { there_low = λ n e. absurd e; there_high = λ n e. absurd e; figures = λ n e. absurd e; waiting = tt; idle = λ e. refl }

pub emptied_good : (k : Core) (n : ℕ) → Good k → Good (with_desk (waypoints_emptied n k.desk) k)
emptied_good k n g = group_good k (with_waypoints (λ ws. [])) n g (waypoints_good k (λ ws. []) n g tt (λ e. refl))

pub all_emptied_good : (k : Core) → Good k → Good (with_desk (all_emptied k.desk) k)
all_emptied_good k g =
    record {
      lengths = g.lengths;
      each = g.each;
      groups = map_keeps (λ j x. GoodGroup (settings k) (length k.desk.axes) x) (with_waypoints (λ ws. [])) k.desk.groups free_group g.groups (λ j. waypoints_good k (λ ws. []) j g tt (λ e. refl));
    }

pub fit_drop : (s : ℕ → AxisSettings) (ns : List ℕ) (ws : List (List ℤ)) → AllByRecursion (Fit s ns) ws → AllByRecursion (Fit s ns) (drop 1 ws)
fit_drop s ns [] h = tt
fit_drop s ns (w ∷ ws) h = h.1
