-- What the tests of an accepted command say, rule by rule.
use Rattle.std.proofs.Common.{◌≡◌, ℕ, zero, suc, ◌≤◌, Bool, true, false, not, ◌&&◌, ◌||◌, T, List, [], ◌∷◌, map, ℤ, pos, negsuc, nat_abs, ◌≤ℤ◌, Some, subst, arith}
use lib.Signed.{le_z, lt_z}
use Rattle.std.proofs.lemmas.Int.{ints}
use Rattle.command.specs.declared.mnemonic.Mnemonic.{Mnemonic}
use Rattle.command.specs.declared.mnemonic.Mnemonic.TheVariants.{Ac, Ag, Fp, Dh, Sl, Sr}
use Rattle.command.specs.Commands.{Field, Command}
use Rattle.queue.specs.declared.error_entry.ErrorEntry.{ErrorEntry}
use Rattle.groups.specs.Groups.{GroupModel, free_group, has}
use Rattle.desk.specs.Tables.{row_or}
use Rattle.rules.specs.World.{Core, settings, axis_at, taken_groups}
use Rattle.rules.specs.Kinds.{is, among}
use Rattle.rules.specs.Refusals as R
use Rattle.rules.specs.Refusals.{needs, where_so, asking, value, none_below, each_within, naming, doing, tests_of}
use Rattle.laws.proofs.Basics.{Passed, or_l, passed_l, passed_r, and_l, and_r, has_case, not_both}
use Rattle.laws.proofs.Good.{Fit, le_of}

pub record Passing (k : Core) (m : Mnemonic) (c : Command) : Type 0 where
  pub not_asking : asking m c ≡ false
  pub axis_there : Passed (R.axis_out k m c)
  pub group_there : Passed (R.group_out k m c)
  pub group_new : Passed (R.group_taken k m c)
  pub group_used : Passed (R.group_free k m c)
  pub alone : Passed (R.in_group k m c)
  pub enough : Passed (R.group_parameter_missing k m c)
  pub axes : Passed (R.group_axes k m c)
  pub still : Passed (R.moving_axis k m c)
  pub velocity : Passed (R.velocity_out k m c)
  pub parameter : Passed (R.axis_parameter_out k m c)
  pub acceleration : Passed (R.acceleration_out k m c)
  pub figure : Passed (R.group_figure_out m c)
  pub figure_most : Passed (R.group_figure_over k m c)
  pub power : Passed (R.power_missing k m c)
  pub limits : Passed (R.limits_out k m c)
  pub room : Passed (R.waypoints_full k m c)

pub passing : (k : Core) (m : Mnemonic) (c : Command) → asking m c ≡ false → Passed (tests_of k (Some m) c) → Passing k m c
passing k m c e p =
    let n1 = passed_l (naming k m c) (where_so (not (asking m c)) (doing k m c)) p in
    let n2 = passed_r (R.axis_missing m c) _ n1 in
    let n3 = passed_r (R.axis_out k m c) _ n2 in
    let n4 = passed_r (R.group_missing k m c) _ n3 in
    let n5 = passed_r (R.group_out k m c) _ n4 in
    let d1 : Passed (doing k m c) = subst (λ b. Passed (where_so (not b) (doing k m c))) e (passed_r (naming k m c) (where_so (not (asking m c)) (doing k m c)) p) in
    let d2 = passed_r (R.in_group k m c) _ d1 in
    let d3 = passed_r (R.parameter_out k m c) _ d2 in
    let d4 = passed_r (R.parameter_missing m c) _ d3 in
    let d5 = passed_r (R.group_parameter_missing k m c) _ d4 in
    let d6 = passed_r (R.group_axes k m c) _ d5 in
    let d7 = passed_r (R.moving_axis k m c) _ d6 in
    let d8 = passed_r (R.velocity_out k m c) _ d7 in
    let d9 = passed_r (R.axis_parameter_out k m c) _ d8 in
    let d10 = passed_r (R.acceleration_out k m c) _ d9 in
    let d11 = passed_r (R.group_figure_out m c) _ d10 in
    let d12 = passed_r (R.group_figure_over k m c) _ d11 in
    let d13 = passed_r (R.power_missing k m c) _ d12 in
    record {
      not_asking = e;
      axis_there = passed_l (R.axis_out k m c) _ n2;
      group_there = passed_l (R.group_out k m c) _ n4;
      group_new = passed_l (R.group_taken k m c) _ n5;
      group_used = passed_r (R.group_taken k m c) _ n5;
      alone = passed_l (R.in_group k m c) _ d1;
      enough = passed_l (R.group_parameter_missing k m c) _ d4;
      axes = passed_l (R.group_axes k m c) _ d5;
      still = passed_l (R.moving_axis k m c) _ d6;
      velocity = passed_l (R.velocity_out k m c) _ d7;
      parameter = passed_l (R.axis_parameter_out k m c) _ d8;
      acceleration = passed_l (R.acceleration_out k m c) _ d9;
      figure = passed_l (R.group_figure_out m c) _ d10;
      figure_most = passed_l (R.group_figure_over k m c) _ d11;
      power = passed_l (R.power_missing k m c) _ d12;
      limits = passed_l (R.limits_out k m c) _ d13;
      room = passed_r (R.limits_out k m c) _ d13;
    }

-- a member of no group
pub ungrouped : (gs : List GroupModel) (n : ℕ) → T (not (taken_groups n gs)) → (g : ℕ) → T (has n (row_or free_group g gs).members) → ⊥
ungrouped gs n h zero e = e
ungrouped [] n h (suc i) e = e
ungrouped (x ∷ gs) n h (suc zero) e = not_both (has n x.members || taken_groups n gs) h (or_l (has n x.members) (taken_groups n gs) e)
ungrouped (x ∷ gs) n h (suc (suc i)) e = ungrouped gs n (not_or (has n x.members) (taken_groups n gs) h) (suc i) e
  where
    not_or : (a b : Bool) → T (not (a || b)) → T (not b)
    not_or true b t = absurd t
    not_or false b t = t

-- a figure above 0 and not above m
pub figure_le : (z : ℤ) (m : ℕ) → T (lt_z (pos 0) z) → T (le_z z (pos m)) → nat_abs z ≤ m
figure_le (pos n) m h k = let l : pos n ≤ℤ pos m = le_of k in omega (arith, ints)
figure_le (negsuc n) m h k = absurd h

-- five tests at once
five : (a b c d e : Bool) → T (a && b && c && d && e) → (T a × (T b × (T c × (T d × T e))))
five true true true true true h = (tt, (tt, (tt, (tt, tt))))
five false b c d e h = absurd h
five true false c d e h = absurd h
five true true false d e h = absurd h
five true true true false e h = absurd h
five true true true true false h = absurd h

-- what x01 asks of the parameter, one by one
pub parameter_parts : (k : Core) (m : Mnemonic) (n : ℕ) (z : ℤ) → T (R.axis_parameter_ok k m n z) → (
    T (not (among (Ac ∷ Ag ∷ []) m) || lt_z (pos 0) z)
    × (T (not (is m Fp) || R.whole_within 0 6 z)
    × (T (not (is m Dh) || (le_z (settings k n).left z && le_z z (settings k n).right))
    × (T (not (is m Sl) || (le_z z (axis_at k n).position && R.reachable k n z)) × T (not (is m Sr) || (le_z (axis_at k n).position z && R.reachable k n z))))))
parameter_parts k m n z h =
    five (not (among (Ac ∷ Ag ∷ []) m) || lt_z (pos 0) z) (not (is m Fp) || R.whole_within 0 6 z) (not (is m Dh) || (le_z (settings k n).left z && le_z z (settings k n).right))
    (not (is m Sl) || (le_z z (axis_at k n).position && R.reachable k n z)) (not (is m Sr) || (le_z (axis_at k n).position z && R.reachable k n z)) h

-- the smallest of the members' maxima
pub none_below_has : (f : ℕ → ℕ) (z : ℤ) (ns : List ℕ) → T (none_below z (map f ns)) → (n : ℕ) → T (has n ns) → T (le_z z (pos (f n)))
none_below_has f z [] h n e = absurd e
none_below_has f z (m ∷ ns) h n e =
    has_case n m ns (λ q. subst (λ j. T (le_z z (pos (f j)))) q (and_l (le_z z (pos (f m))) (none_below z (map f ns)) h))
    (none_below_has f z ns (and_r (le_z z (pos (f m))) (none_below z (map f ns)) h) n) e

-- the members have power
pub each_on : (f : ℕ → Bool) (e : ℕ → ErrorEntry) (ns : List ℕ) → Passed (map (λ n. needs (f n) (e n)) ns) → (n : ℕ) → T (has n ns) → T (f n)
each_on f e [] h n i = absurd i
each_on f e (m ∷ ns) h n i = has_case n m ns (λ q. subst (λ j. T (f j)) q h.0) (each_on f e ns h.1 n) i

-- the places lie within the limits
pub within_fit : (k : Core) (ns : List ℕ) (fs : List Field) → Passed (each_within k ns fs) → Fit (settings k) ns (map value fs)
within_fit k [] fs h = tt
within_fit k (n ∷ ns) [] h = tt
within_fit k (n ∷ ns) (f ∷ fs) h = (record { low = le_of h.1.0; high = le_of h.0 }, within_fit k ns fs h.1.1)
