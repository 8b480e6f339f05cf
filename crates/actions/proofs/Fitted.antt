-- What an accepted command says fits. Assumes nothing.
use Rattle.std.proofs.Common.{◌≡◌, ℕ, zero, suc, ◌+◌, ◌-◌, ◌/◌, ◌^◌, ◌≤◌, Bool, true, false, cond, not, ◌&&◌, ◌||◌, T, eqb, ltb, leb, List, [], ◌∷◌, map, length, get_or, take, ℤ, pos, negsuc, ◌+ℤ◌, nat_abs, ◌≤ℤ◌, is_some, Some, None, Option, sym, refl, ap, ◌∙◌, subst, ⊎_elim, arith, le→leb, eqb→eq, ltb→lt, leb→le}
use lib.Signed.{le_z, lt_z}
use Rattle.std.proofs.lemmas.Int.{ints}
use Rattle.std.proofs.lemmas.List.{length-map, length-take}
use Rattle.number.specs.Decimals.{read_decimal, signed_of, magnitude_of}
use Rattle.command.specs.declared.mnemonic.Mnemonic.{Mnemonic}
use Rattle.command.specs.declared.mnemonic.Mnemonic.TheVariants.{Va, Ac, Ag, Sl, Sr, Fp, Mo, Mf, Pa, Pr, St, Dh, Ws, Id, Tp, Dp, Md, Hn, Hx, Hv, Ha, Hd, Ho, Hf, Hl, Hp, Hw, Ab, Wt, Tb, Te}
use Rattle.command.specs.Commands.{Field, Command, capped}
use Rattle.std.specs.List.{AllByRecursion}
use Rattle.drive.specs.Model.{Axis, SoundAxis, Sound}
use Rattle.groups.specs.declared.group.Group.{Group}
use Rattle.groups.specs.Groups.{group_model, free_group}
use Rattle.desk.specs.declared.desk_state.Desk.{Desk}
use Rattle.desk.specs.Axes.{no_axis}
use Rattle.desk.specs.Desks.{model_of}
use Rattle.desk.specs.Tables.{there, row_or}
use Rattle.rules.specs.World.{Core, core_of, no_drive_axis, axis_count, group_count, settings, members, axis_at}
use Rattle.rules.specs.Kinds.{is}
use Rattle.rules.specs.Refusals as R
use Rattle.rules.specs.Refusals.{axis_named, group_named, given, naming, doing, where_so, value, units, whole_value, or_zero, none_blank, none_below, each_axis, each_within, unblank_pass, asking, refusal, refused_by, tests_of}
use Rattle.asked.proofs.Stands.{twelve_axes, twelve_groups}
use Rattle.laws.proofs.Basics.{Passed, passed_l, passed_r, judged, and_l, and_r, or_case, true_of, there_high}
use Rattle.laws.proofs.Passing.{Passing, passing, figure_le, parameter_parts}
use Rattle.actions.specs.Narrow.{fitting, as_position}
use Rattle.actions.specs.Fits.{Wide, AxisFits, GroupFits, FigureFits, PositionFits, Fits}

-- ---- numbers that fit

fitting_le : (most n : ℕ) → n ≤ most → fitting most n ≡ n
fitting_le most n h = ap (λ b. cond b n 0) (true_of (leb n most) (le→leb n most h))

number_fits : {X : Type 0} (n : ℕ) (xs : List X) → length xs ≤ 12 → T (there n xs) → capped n ≡ n
number_fits n xs h t = let l = there_high n xs t in omega arith

position_fits : (z low high : ℤ) → negsuc (2 ^ 31 - 1) ≤ℤ low → high ≤ℤ pos (2 ^ 31 - 1) → T (le_z low z) → T (le_z z high) → as_position z ≡ z
position_fits z low high l h a b =
    let p : low ≤ℤ z = record { le = a } in
    let q : z ≤ℤ high = record { le = b } in
    let r : negsuc (2 ^ 31 - 1) ≤ℤ z = omega (arith, ints) in
    let s : z ≤ℤ pos (2 ^ 31 - 1) = omega (arith, ints) in
    ap (λ t. cond (t && le_z z (pos (2 ^ 31 - 1))) z (pos 0)) (true_of (le_z (negsuc (2 ^ 31 - 1)) z) r.le) ∙ ap (λ t. cond t z (pos 0)) (true_of (le_z z (pos (2 ^ 31 - 1))) s.le)

reach_fits : (z : ℤ) (reach : ℕ) → reach ≤ 2000000000 → T (leb (nat_abs z) reach) → as_position z ≡ z
reach_fits z reach h t =
    let l = leb→le (nat_abs z) reach t in
    let r : negsuc (2 ^ 31 - 1) ≤ℤ z = omega (arith, ints) in
    let s : z ≤ℤ pos (2 ^ 31 - 1) = omega (arith, ints) in
    position_fits z z z r s (self z) (self z)
  where
    self : (z : ℤ) → T (le_z z z)
    self z = let e : z ≤ℤ z = omega (arith, ints) in e.le

-- a figure above 0 and not above the most
figure_fits : (z : ℤ) (most : ℕ) → most ≤ 2 ^ 32 - 1 → T (lt_z (pos 0) z) → T (le_z z (pos most)) → FigureFits (nat_abs z)
figure_fits z most h a b = let l = figure_le z most a b in fitting_le (2 ^ 32 - 1) (nat_abs z) (omega arith)

-- the same of a group that has members
group_figure_fits : (f : ℕ → ℕ) (z : ℤ) (ns : List ℕ) → ((n : ℕ) → f n ≤ 2 ^ 32 - 1) → T (ltb 0 (length ns)) → T (lt_z (pos 0) z) → T (none_below z (map f ns)) → FigureFits (nat_abs z)
group_figure_fits f z [] h some a b = absurd some
group_figure_fits f z (n ∷ ns) h some a b = figure_fits z (f n) (h n) a (and_l (le_z z (pos (f n))) (none_below z (map f ns)) b)

-- a whole number that is not above the most
between_fits : (low high most : ℕ) (o : Option ℕ) → high ≤ most → T (R.between low high o) → fitting most (R.number_or 0 o) ≡ R.number_or 0 o
between_fits low high most None h t = absurd t
between_fits low high most (Some n) h t = let l = leb→le n high (and_r (leb low n) (leb n high) t) in fitting_le most n (omega arith)

whole_fits : (low high most : ℕ) (z : ℤ) → high ≤ most → T (R.whole_within low high z) → fitting most (whole_value z) ≡ whole_value z
whole_fits low high most z h t = between_fits low high most (R.whole_units z) h t

-- nothing says 0
none_said : (xs : List ℕ) → T (eqb (length xs) 0) → or_zero (read_decimal xs) ≡ pos 0
unfolding signed_of magnitude_of
none_said [] h = refl
none_said (x ∷ xs) h = let e = eqb→eq (length (x ∷ xs)) 0 h in absurd (omega arith)

-- ---- lists of parameters

-- HN: each names an axis
axes_fit : (k : Core) (fs : List Field) → axis_count k ≤ 12 → Passed (each_axis k fs) → map (λ f. fitting (2 ^ 8 - 1) (units f)) fs ≡ map units fs
axes_fit k [] h p = refl
axes_fit k (f ∷ fs) h p =
    ap (λ n. n ∷ map (λ f. fitting (2 ^ 8 - 1) (units f)) fs) (whole_fits 1 (axis_count k) (2 ^ 8 - 1) (value f) (omega arith) p.0) ∙ ap (λ ns. units f ∷ ns) (axes_fit k fs h p.1)

-- HL: there are no more than members, and each lies within the limits of its own
allowed_of : (b r a w : Bool) → T (not b) → T (b || not (not r || not a || w)) → T a
allowed_of true r a w n h = absurd n
allowed_of false false a w n h = absurd h
allowed_of false true true w n h = tt
allowed_of false true false w n h = absurd h

in_time : (a b : Bool) → T (false || (true && a) || (false && b)) → T a
in_time true b h = tt
in_time false b h = absurd h

counted : (k : Core) (c : Command) (i : ℕ) (fs : List Field) → i ≤ length (members k (group_named k c)) → T (none_blank fs) → Passed (unblank_pass k Hl c i fs) → i + length fs ≤ length (members k (group_named k c))
counted k c i [] h n p = omega arith
counted k c i (f ∷ fs) h n p =
    let b = and_l (not (R.blank_field f)) (none_blank fs) n in
    let a = allowed_of (R.blank_field f) (is_some (read_decimal f.bytes)) (R.allowed k Hl c i) (is Hl Wt && not (R.whole_within 0 60000 (value f))) b p.0 in
    let l = ltb→lt i (length (members k (group_named k c))) (in_time (ltb i (length (members k (group_named k c)))) (ltb i 1) a) in
    let more = counted k c (suc i) fs (omega arith) (and_r (not (R.blank_field f)) (none_blank fs) n) p.1 in
    omega arith

positions_fit : (k : Core) (ns : List ℕ) (fs : List Field) → ((n : ℕ) → Wide (settings k n)) → length fs ≤ length ns → Passed (each_within k ns fs) → map (λ f. as_position (value f)) fs ≡ map value fs
positions_fit k [] [] w h p = refl
positions_fit k [] (f ∷ fs) w h p = absurd (omega arith)
positions_fit k (n ∷ ns) [] w h p = refl
positions_fit k (n ∷ ns) (f ∷ fs) w h p =
    ap (λ z. z ∷ map (λ f. as_position (value f)) fs) (position_fits (value f) (settings k n).left (settings k n).right (w n).left (w n).right p.1.0 p.0)
    ∙ ap (λ zs. value f ∷ zs) (positions_fit k ns fs w (omega arith) p.1.1)

-- WT: blank, or not above 60,000
said_or_blank : {P : Type 0} (b r a w : Bool) → (T b → P) → (T w → P) → T (b || not (not r || not a || (true && not w))) → P
said_or_blank true r a w f g h = f tt
said_or_blank false true true true f g h = g tt
said_or_blank false true true false f g h = absurd h
said_or_blank false true false w f g h = absurd h
said_or_blank false false a w f g h = absurd h

beats_fit : (k : Core) (c : Command) (fs : List Field) → Passed (unblank_pass k Wt c 0 fs) → FigureFits (whole_value (R.first_of fs))
beats_fit k c [] p = refl
beats_fit k c (f ∷ fs) p =
    said_or_blank (R.blank_field f) (is_some (read_decimal f.bytes)) (R.allowed k Wt c 0) (R.whole_within 0 60000 (value f))
    (λ b. subst (λ z. FigureFits (whole_value z)) (sym (none_said f.bytes b)) refl) (λ w. whole_fits 0 60000 (2 ^ 32 - 1) (value f) (omega arith) w) p.0

-- ---- all together

-- what is known of desk and drive
pub record Small (k : Core) : Type 0 where
  pub wide : (n : ℕ) → Wide (settings k n)
  pub few_axes : axis_count k ≤ 12
  pub few_groups : group_count k ≤ 12
  pub few_members : (g : ℕ) → length (members k g) ≤ 12
  pub reach : (n : ℕ) → (axis_at k n).reach ≤ 2000000000

axis_fits : (k : Core) (c : Command) → Small k → T (there (axis_named c) k.desk.axes) → AxisFits c
axis_fits k c s t = number_fits (axis_named c) k.desk.axes s.few_axes t

axis_or_all : (k : Core) (c : Command) → Small k → T (R.names_all c || there (axis_named c) k.desk.axes) → AxisFits c
axis_or_all k c s t = or_case (R.names_all c) (there (axis_named c) k.desk.axes) (λ e. let z = eqb→eq (axis_named c) 0 e in omega arith) (axis_fits k c s) t

group_fits : (k : Core) (c : Command) → Small k → T (there (group_named k c) k.desk.groups) → GroupFits k c
group_fits k c s t = number_fits (group_named k c) k.desk.groups s.few_groups t

-- a target within the limits of the axis n
target_fits : (k : Core) (n : ℕ) (z : ℤ) → Small k → T (le_z (settings k n).left z) → T (le_z z (settings k n).right) → PositionFits z
target_fits k n z s l r = position_fits z (settings k n).left (settings k n).right (s.wide n).left (s.wide n).right l r

-- each parameter that is not blank is one
unblanks : (k : Core) (m : Mnemonic) (c : Command) → asking m c ≡ false → Passed (tests_of k (Some m) c) → Passed (unblank_pass k m c 0 c.parameters)
unblanks k m c e p =
    let d1 : Passed (doing k m c) = subst (λ b. Passed (where_so (not b) (doing k m c))) e (passed_r (naming k m c) (where_so (not (asking m c)) (doing k m c)) p) in
    passed_l (unblank_pass k m c 0 c.parameters) _ (passed_l (R.parameter_out k m c) _ (passed_r (R.in_group k m c) _ d1))

-- `u` says so of the parameters, `a` what the other rules say
pub fitted : (k : Core) (m : Mnemonic) (c : Command) → Small k → Passed (unblank_pass k m c 0 c.parameters) → Passing k m c → Fits k m c
fitted k Va c s u a = (axis_fits k c s a.axis_there.0, figure_fits (given c) (settings k (axis_named c)).max_velocity (s.wide (axis_named c)).velocity a.velocity.0 a.velocity.1.0)
fitted k Ac c s u a = (axis_fits k c s a.axis_there.0, figure_fits (given c) (settings k (axis_named c)).max_acceleration (s.wide (axis_named c)).acceleration (parameter_parts k Ac (axis_named c) (given c) a.parameter.0).0 a.acceleration.0)
fitted k Ag c s u a = (axis_fits k c s a.axis_there.0, figure_fits (given c) (settings k (axis_named c)).max_acceleration (s.wide (axis_named c)).acceleration (parameter_parts k Ag (axis_named c) (given c) a.parameter.0).0 a.acceleration.0)
fitted k Sl c s u a = (axis_fits k c s a.axis_there.0, reach_fits (given c) (axis_at k (axis_named c)).reach (s.reach (axis_named c)) (and_r (le_z (given c) (axis_at k (axis_named c)).position) (R.reachable k (axis_named c) (given c)) (parameter_parts k Sl (axis_named c) (given c) a.parameter.0).1.1.1.0))
fitted k Sr c s u a = (axis_fits k c s a.axis_there.0, reach_fits (given c) (axis_at k (axis_named c)).reach (s.reach (axis_named c)) (and_r (le_z (axis_at k (axis_named c)).position (given c)) (R.reachable k (axis_named c) (given c)) (parameter_parts k Sr (axis_named c) (given c) a.parameter.0).1.1.1.1))
fitted k Fp c s u a = (axis_fits k c s a.axis_there.0, whole_fits 0 6 (2 ^ 8 - 1) (given c) (omega arith) (parameter_parts k Fp (axis_named c) (given c) a.parameter.0).1.0)
fitted k Mo c s u a = axis_fits k c s a.axis_there.0
fitted k Mf c s u a = axis_fits k c s a.axis_there.0
fitted k Pa c s u a = (axis_fits k c s a.axis_there.0, target_fits k (axis_named c) (given c) s a.limits.1.0 a.limits.0)
fitted k Pr c s u a = (axis_fits k c s a.axis_there.0, target_fits k (axis_named c) ((axis_at k (axis_named c)).target +ℤ given c) s a.limits.1.0 a.limits.0)
fitted k St c s u a = axis_fits k c s a.axis_there.0
fitted k Dh c s u a =
    let n = axis_named c in
    let p = (parameter_parts k Dh n (given c) a.parameter.0).1.1.0 in
    (axis_fits k c s a.axis_there.0, target_fits k n (given c) s (and_l (le_z (settings k n).left (given c)) (le_z (given c) (settings k n).right) p) (and_r (le_z (settings k n).left (given c)) (le_z (given c) (settings k n).right) p))
fitted k Ws c s u a = axis_or_all k c s a.axis_there.0
fitted k Id c s u a = tt
fitted k Tp c s u a = tt
fitted k Dp c s u a = tt
fitted k Md c s u a = tt
fitted k Hn c s u a = (group_fits k c s a.group_there.0, axes_fit k c.parameters s.few_axes (passed_l (each_axis k c.parameters) _ a.axes))
fitted k Hx c s u a = group_fits k c s a.group_there.0
fitted k Hv c s u a = (group_fits k c s a.group_there.0, group_figure_fits (λ n. (settings k n).max_velocity) (given c) (members k (group_named k c)) (λ n. (s.wide n).velocity) a.group_used.0 a.figure.0 a.figure_most.0)
fitted k Ha c s u a = (group_fits k c s a.group_there.0, group_figure_fits (λ n. (settings k n).max_acceleration) (given c) (members k (group_named k c)) (λ n. (s.wide n).acceleration) a.group_used.0 a.figure.0 a.figure_most.0)
fitted k Hd c s u a = (group_fits k c s a.group_there.0, group_figure_fits (λ n. (settings k n).max_acceleration) (given c) (members k (group_named k c)) (λ n. (s.wide n).acceleration) a.group_used.0 a.figure.0 a.figure_most.0)
fitted k Ho c s u a = group_fits k c s a.group_there.0
fitted k Hf c s u a = group_fits k c s a.group_there.0
fitted k Hl c s u a =
    let ms = members k (group_named k c) in
    let fs = c.parameters in
    let n = counted k c 0 fs (omega arith) (and_r (leb (length ms) (length fs)) (none_blank fs) a.enough.0) u in
    let most = s.few_members (group_named k c) in
    let l = length-map fs value in
    (group_fits k c s a.group_there.0, positions_fit k ms fs s.wide (omega arith) a.limits, true_of (leb (length (R.values c)) 12) (le→leb (length (R.values c)) 12 (omega arith)))
fitted k Hp c s u a = tt
fitted k Hw c s u a = group_fits k c s a.group_there.0
fitted k Ab c s u a = tt
fitted k Wt c s u a = beats_fit k c c.parameters u
fitted k Tb c s u a = tt
fitted k Te c s u a = tt

-- ---- desk and drive

members_few : (gs : List Group) (i : ℕ) → length (get_or (map group_model gs) i free_group).members ≤ 12
members_few [] i = omega arith
members_few (g ∷ gs) zero = let l = length-take g.members.list.len g.members.list.items in let f = g.members.list.few in omega arith
members_few (g ∷ gs) (suc i) = members_few gs i

reach_few : (axes : List Axis) (i : ℕ) → AllByRecursion SoundAxis axes → (get_or axes i no_drive_axis).reach ≤ 2000000000
reach_few [] i h = omega arith
reach_few (a ∷ axes) zero h = h.0.most_reach
reach_few (a ∷ axes) (suc i) h = reach_few axes i h.1

pub small : (d : Desk) (axes : List Axis) → ((n : ℕ) → Wide (row_or no_axis n (model_of d).axes)) → Sound axes → Small (core_of d axes)
small d axes w h = record {
  wide = w;
  few_axes = twelve_axes d;
  few_groups = twelve_groups d;
  few_members = λ g. elim g as (λ g. length (row_or free_group g (model_of d).groups).members ≤ 12) [ zero ↦ omega arith | suc i ↦ members_few (take d.groups.len d.groups.items) i ];
  reach = λ n. elim n as (λ n. (row_or no_drive_axis n axes).reach ≤ 2000000000) [ zero ↦ omega arith | suc i ↦ reach_few axes i h.each ];
}

-- THE use of it: where a command is accepted and does not ask
pub accepted_fits : (d : Desk) (axes : List Axis) (m : Mnemonic) (c : Command) → ((n : ℕ) → Wide (row_or no_axis n (model_of d).axes)) → Sound axes → refused_by (core_of d axes) c ≡ None → c.mnemonic ≡ Some m → asking m c ≡ false → Fits (core_of d axes) m c
accepted_fits d axes m c w h r e a =
    let k = core_of d axes in
    let passed : Passed (tests_of k (Some m) c) =
    ⊎_elim (λ f. let z : ◌≡◌ {A = ℕ} 0 1 = cc in absurd (omega arith)) (λ q. q.0)
    (judged (tests_of k (Some m) c)) in
    fitted k m c (small d axes w h) (unblanks k m c a passed) (passing k m c a passed)
