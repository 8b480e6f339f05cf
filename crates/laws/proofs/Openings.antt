-- The state after an opening.
use Rattle.std.proofs.Common.{◌≡◌, ℕ, zero, suc, ◌+◌, ◌/◌, ◌<◌, ◌≤◌, ◌&&◌, T, ◌⊎◌, List, [], ◌∷◌, map, length, get_or, replicate, ◌≤ℤ◌, sym, refl, ap, ◌∙◌, subst, inl, inr, arith, leb→le}
use lib.Signed.{le_z}
use Rattle.std.proofs.lemmas.Int.{ints}
use Rattle.std.proofs.lemmas.List.{get_or_past}
use Rattle.std.proofs.lemmas.Bool.{cases_lt}
use Rattle.std.specs.List.{AllByRecursion}
use Rattle.drive.specs.Model.{Axis, SoundAxis, Sound, power_off_axis}
use Rattle.drive.specs.Calls.{power_off, done, replay}
use Rattle.drive.proofs.Numbers.{inside_is}
use Rattle.setup.specs.declared.record.SetupRecord.{SetupRecord}
use Rattle.groups.specs.Groups.{free_group, has}
use Rattle.desk.specs.declared.axis_settings.AxisSettings.{AxisSettings}
use Rattle.desk.specs.Tables.{row_or}
use Rattle.desk.specs.Axes.{no_axis, opened_axis}
use Rattle.rules.specs.World.{settings, group, axis_at, no_drive_axis, numbers, numbers_from}
use Rattle.rules.specs.Calls.{matches, placed, within_reach, opened}
use Rattle.laws.proofs.Basics.{alter_gives, at_alter, Touches, effect, replay_keeps, replay_count, all_map, and_l, and_r, has_case, has_first, has_later}
use Rattle.laws.proofs.Good.{GoodAxis, GoodGroup, Good, le_of, at_most_refl, free_good}

-- an axis that stopped
abbrev Halted : AxisSettings → Axis → Type 0
Halted s a = GoodAxis s (power_off_axis a).1

none_good : GoodAxis no_axis no_drive_axis
none_good = record {
  left_position = omega (arith, ints);
  position_right = omega (arith, ints);
  left_target = omega (arith, ints);
  target_right = omega (arith, ints);
  left_reach = omega (arith, ints);
  right_reach = omega (arith, ints);
  own_most = at_most_refl _;
  fair = λ p t q hp ht.
      let bp = inside_is p 0 hp in
      let bt = inside_is t 0 ht in
      record { up = λ h. (omega (arith, ints), omega (arith, ints)); down = λ h. (omega (arith, ints), omega (arith, ints)); nearer_up = λ h. omega (arith, ints); nearer_down = λ h. omega (arith, ints) };
}

opened_good_axis : (r : SetupRecord) (a : Axis) → SoundAxis a → T (within_reach a r.left) → T (within_reach a r.right) → T (le_z r.left a.position) → T (le_z a.position r.right) → Halted (opened_axis r) a
opened_good_axis r a s l u low high =
    let bl = inside_is r.left a.reach (leb→le _ _ l) in
    let bu = inside_is r.right a.reach (leb→le _ _ u) in
    record { left_position = le_of low; position_right = le_of high; left_target = le_of low; target_right = le_of high; left_reach = bl.0; right_reach = bu.1; own_most = at_most_refl _; fair = s.fair }

opened_each : (rs : List SetupRecord) (axes : List Axis) → AllByRecursion SoundAxis axes → T (matches (map opened_axis rs) axes) → T (placed (map opened_axis rs) axes) → (i : ℕ) → Halted (get_or (map opened_axis rs) i no_axis) (get_or axes i no_drive_axis)
opened_each [] [] s m p i = none_good
opened_each [] (a ∷ axes) s m p i = absurd m
opened_each (r ∷ rs) [] s m p i = absurd m
opened_each (r ∷ rs) (a ∷ axes) s m p zero =
    let w = and_l (within_reach a r.left && within_reach a r.right) (matches (map opened_axis rs) axes) m in
    let q = and_l (le_z r.left a.position && le_z a.position r.right) (placed (map opened_axis rs) axes) p in
    opened_good_axis r a s.0 (and_l (within_reach a r.left) (within_reach a r.right) w) (and_r (within_reach a r.left) (within_reach a r.right) w) (and_l (le_z r.left a.position) (le_z a.position r.right) q) (and_r (le_z r.left a.position) (le_z a.position r.right) q)
opened_each (r ∷ rs) (a ∷ axes) s m p (suc i) = opened_each rs axes s.1 (and_r (within_reach a r.left && within_reach a r.right) (matches (map opened_axis rs) axes) m) (and_r (le_z r.left a.position && le_z a.position r.right) (placed (map opened_axis rs) axes) p) i

opened_rows : (rs : List SetupRecord) (axes : List Axis) → AllByRecursion SoundAxis axes → T (matches (map opened_axis rs) axes) → T (placed (map opened_axis rs) axes) → (n : ℕ) → Halted (row_or no_axis n (map opened_axis rs)) (row_or no_drive_axis n axes)
opened_rows rs axes s m p zero = none_good
opened_rows rs axes s m p (suc i) = opened_each rs axes s m p i

pub opened_count : (rs : List SetupRecord) (axes : List Axis) → T (matches (map opened_axis rs) axes) → length (map opened_axis rs) ≡ length axes
opened_count [] [] m = refl
opened_count [] (a ∷ axes) m = absurd m
opened_count (r ∷ rs) [] m = absurd m
opened_count (r ∷ rs) (a ∷ axes) m = ap suc (opened_count rs axes (and_r (within_reach a r.left && within_reach a r.right) (matches (map opened_axis rs) axes) m))

-- ---- power is cut

abbrev Rests : Axis → Type 0
Rests a = a.target ≡ a.position

off_rests : (n : ℕ) (xs : List Axis) → 1 ≤ n → n ≤ length xs → Rests (row_or no_drive_axis n (done (power_off n) xs))
off_rests n xs low high =
    subst (λ ys. Rests (row_or no_drive_axis n ys)) (sym (at_alter power_off_axis n xs))
    (alter_gives (λ k a. k ≡ n → Rests a) (λ a. (power_off_axis a).1) n xs no_drive_axis low high (λ k e q. absurd (e q)) (λ q. refl) n refl)

off_keeps : (ns : List ℕ) (xs : List Axis) (n : ℕ) → Rests (row_or no_drive_axis n xs) → Rests (row_or no_drive_axis n (replay (map power_off ns) xs))
off_keeps ns xs n h = replay_keeps (λ k a. k ≡ n → Rests a) (map power_off ns) xs (all_map (λ t. (k : ℕ) (a : Axis) → Touches t k → (k ≡ n → Rests a) → (k ≡ n → Rests (effect t a))) power_off (λ m k a e q i. refl) ns) (λ k q. subst (λ j. Rests (row_or no_drive_axis j xs)) (sym q) h) n refl

off_all : (ns : List ℕ) (xs : List Axis) (n : ℕ) → 1 ≤ n → n ≤ length xs → T (has n ns) → Rests (row_or no_drive_axis n (replay (map power_off ns) xs))
off_all [] xs n low high e = absurd e
off_all (m ∷ ns) xs n low high e =
    let c = replay_count (power_off m ∷ []) xs in
    has_case n m ns
    (λ q. off_keeps ns (done (power_off m) xs) n (subst (λ j. Rests (row_or no_drive_axis n (done (power_off j) xs))) (sym q) (off_rests n xs low high)))
    (off_all ns (done (power_off m) xs) n low (subst (λ l. n ≤ l) (sym c) high)) e

numbers_has : (m k n : ℕ) → k ≤ n → n < k + m → T (has n (numbers_from k m))
numbers_has zero k n low high = absurd (omega arith)
numbers_has (suc m) k n low high =
    elim (same_or_more k n low) [ inl e ↦ subst (λ j. T (has j (k ∷ numbers_from (suc k) m))) e (has_first k (numbers_from (suc k) m)) | inr l ↦ has_later n k (numbers_from (suc k) m) (numbers_has m (suc k) n l (omega arith)) ]
  where
    same_or_more : (k n : ℕ) → k ≤ n → (k ≡ n) ⊎ (suc k ≤ n)
    same_or_more zero zero h = inl refl
    same_or_more zero (suc n) h = inr (omega arith)
    same_or_more (suc k) zero h = absurd (omega arith)
    same_or_more (suc k) (suc n) h = elim (same_or_more k n (omega arith)) [ inl e ↦ inl (ap suc e) | inr l ↦ inr (omega arith) ]

row_past : (n : ℕ) (xs : List Axis) → length xs < n → row_or no_drive_axis n xs ≡ no_drive_axis
row_past zero xs h = absurd (omega arith)
row_past (suc i) xs h = get_or_past xs i no_drive_axis (omega arith)

all_rest : (xs : List Axis) (n : ℕ) → Rests (row_or no_drive_axis n (replay (map power_off (numbers (length xs))) xs))
all_rest xs zero = refl
all_rest xs (suc i) =
    let after = replay (map power_off (numbers (length xs))) xs in
    elim (cases_lt i (length xs)) [
      | inl l ↦ off_all (numbers (length xs)) xs (suc i) (omega arith) l (numbers_has (length xs) 1 (suc i) (omega arith) (omega arith))
      | inr l ↦ subst Rests (sym (row_past (suc i) after (let c = replay_count (map power_off (numbers (length xs))) xs in omega arith))) refl
    ]

good_resting : (s : AxisSettings) (a : Axis) → Halted s a → Rests a → GoodAxis s a
good_resting s a h e =
    record { left_position = h.left_position; position_right = h.position_right; left_target = subst (λ t. s.left ≤ℤ t) (sym e) h.left_position; target_right = subst (λ t. t ≤ℤ s.right) (sym e) h.position_right; left_reach = h.left_reach; right_reach = h.right_reach; own_most = h.own_most; fair = h.fair }

-- ---- all of it

free_rows : (n : ℕ) (g : ℕ) → row_or free_group g (replicate n free_group) ≡ free_group
free_rows n zero = refl
free_rows n (suc i) = go n i
  where
    go : (n i : ℕ) → get_or (replicate n free_group) i free_group ≡ free_group
    go zero i = refl
    go (suc n) zero = refl
    go (suc n) (suc i) = go n i

pub opened_group : (rs : List SetupRecord) (axes : List Axis) (g : ℕ) → group (opened rs axes).core g ≡ free_group
opened_group rs axes g = free_rows (length rs / 2) g

pub opened_good : (rs : List SetupRecord) (axes : List Axis) → Sound axes → T (matches (map opened_axis rs) axes) → T (placed (map opened_axis rs) axes) → Good (opened rs axes).core
opened_good rs axes s m p =
    let k = (opened rs axes).core in
    let offs = map power_off (numbers (length axes)) in
    record {
      lengths = opened_count rs axes m ∙ sym (replay_count offs axes);
      each = λ n.
          good_resting (settings k n) (axis_at k n)
          (replay_keeps (λ j a. Halted (settings k j) a) offs axes (all_map (λ t. (j : ℕ) (a : Axis) → Touches t j → Halted (settings k j) a → Halted (settings k j) (effect t a)) power_off (λ i j a e h. h) (numbers (length axes))) (opened_rows rs axes s.each m p) n)
          (all_rest axes n);
      groups = λ g. subst (GoodGroup (settings k) (length k.desk.axes)) (sym (opened_group rs axes g)) (free_good _ _);
    }
