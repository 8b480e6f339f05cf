-- Whom each command names, and what follows where it names what is there.
use Rattle.std.proofs.Common.{◌≡◌, ℕ, ◌≤◌, Bool, true, false, cond, ◌||◌, eqb, List, [], ◌∷◌, ◌++◌, length, Some, None, Ok, Option, sym, refl, ◌∙◌, arith}
use Rattle.std.proofs.lemmas.Bool.Decides.{nat_tests}
use Rattle.std.proofs.lemmas.Bool.{true≢false}
use Rattle.command.specs.declared.mnemonic.Mnemonic.{Mnemonic}
use Rattle.command.specs.declared.mnemonic.Mnemonic.TheVariants.{Va, Ac, Ag, Sl, Sr, Fp, Mo, Mf, Pa, Pr, St, Dh, Ws, Id, Tp, Dp, Md, Hn, Hx, Hv, Ha, Hd, Ho, Hf, Hl, Hp, Hw, Ab, Wt, Tb, Te}
use Rattle.command.specs.Commands.{Command, prefix_number}
use Rattle.queue.specs.declared.error_entry.ErrorEntry.{ErrorEntry}
use Rattle.queue.specs.declared.fault.Fault.TheVariants.{AxisOutOfRange, GroupOutOfRange}
use Rattle.desk.specs.Tables.{there}
use Rattle.rules.specs.World.{Core, group_count}
use Rattle.rules.specs.Kinds.{is, among, axis_commands, group_commands}
use Rattle.rules.specs.Refusals as R
use Rattle.rules.specs.Refusals.{Test, needs, entry, where_so, number_or, axis_named, group_named, names_all}
use Rattle.shape.specs.Verdicts.{judged}
use Rattle.shape.proofs.Chains.{passes, front_passed}
use Rattle.checks.specs.Order.{without_prefix}

-- an axis; an axis or all; a group; nobody, and then only the rules of parameters apply
pub data Sort (m : Mnemonic) : Type 0 where
  of_axis : among without_prefix m ≡ false → among axis_commands m ≡ true → Sort m
  of_some : among without_prefix m ≡ false → is m Ws ≡ true → Sort m
  of_group : among without_prefix m ≡ false → among group_commands m ≡ true → Sort m
  of_none : among without_prefix m ≡ true → ((k : Core) (c : Command) → judged (R.parameter_out k m c ++ R.parameter_missing m c) ≡ judged (R.doing k m c)) → Sort m

pub sort : (m : Mnemonic) → Sort m
sort Va = of_axis refl refl
sort Ac = of_axis refl refl
sort Ag = of_axis refl refl
sort Sl = of_axis refl refl
sort Sr = of_axis refl refl
sort Fp = of_axis refl refl
sort Mo = of_axis refl refl
sort Mf = of_axis refl refl
sort Pa = of_axis refl refl
sort Pr = of_axis refl refl
sort St = of_axis refl refl
sort Dh = of_axis refl refl
sort Ws = of_some refl refl
sort Id = of_axis refl refl
sort Tp = of_axis refl refl
sort Dp = of_axis refl refl
sort Md = of_axis refl refl
sort Hn = of_group refl refl
sort Hx = of_group refl refl
sort Hv = of_group refl refl
sort Ha = of_group refl refl
sort Hd = of_group refl refl
sort Ho = of_group refl refl
sort Hf = of_group refl refl
sort Hl = of_group refl refl
sort Hp = of_group refl refl
sort Hw = of_group refl refl
sort Ab = of_none refl (λ k c. refl)
sort Wt = of_none refl (λ k c. refl)
sort Tb = of_none refl (λ k c. refl)
sort Te = of_none refl (λ k c. refl)

-- a command that names nobody meets the rules of parameters alone
pub nobody : (k : Core) (m : Mnemonic) (c : Command) → Sort m → among without_prefix m ≡ true → judged (R.parameter_out k m c ++ R.parameter_missing m c) ≡ judged (R.doing k m c)
nobody k m c (of_axis n e) h = absurd (true≢false (sym h ∙ n))
nobody k m c (of_some n e) h = absurd (true≢false (sym h ∙ n))
nobody k m c (of_group n e) h = absurd (true≢false (sym h ∙ n))
nobody k m c (of_none n f) h = f k c

-- where all pass, those behind the first do
rest_passed : (xs ys : List Test) → judged (xs ++ ys) ≡ Ok tt → judged ys ≡ Ok tt
rest_passed xs ys h = sym (passes xs ys (front_passed xs ys h) refl) ∙ h

-- a single test of a rule that applies
one_passed : (a b : Bool) (e : ErrorEntry) → a ≡ true → judged (where_so a (needs b e ∷ [])) ≡ Ok tt → b ≡ true
one_passed true true e h p = refl
one_passed true false e h p = absurd (grind arith)
one_passed false b e h p = absurd (true≢false (sym h))

-- the number in front, by whichever name
same_number : (d : ℕ) (o : Option ℕ) (n : ℕ) → number_or d o ≤ n → number_or 0 o ≤ n
same_number d (Some m) n h = h
same_number d None n h = omega arith

pub small_number : (k : Core) (m : Mnemonic) (c : Command) → length k.desk.axes ≤ 12 → length k.desk.groups ≤ 12 → Sort m → among without_prefix m ≡ false → judged (R.naming k m c) ≡ Ok tt → axis_named c ≤ 12
small_number k m c a g (of_none n f) h p = absurd (true≢false (sym n ∙ h))
small_number k m c a g (of_axis n e) h p =
    let out = front_passed (R.axis_out k m c) _ (rest_passed (R.axis_missing m c) _ p) in
    let found = one_passed (among axis_commands m) (there (axis_named c) k.desk.axes) (entry AxisOutOfRange c.column) e (front_passed (where_so (among axis_commands m) (needs (there (axis_named c) k.desk.axes) (entry AxisOutOfRange c.column) ∷ [])) _ out) in
    grind (arith, nat_tests)
small_number k m c a g (of_some n e) h p =
    let out = front_passed (R.axis_out k m c) _ (rest_passed (R.axis_missing m c) _ p) in
    let found =
    one_passed (is m Ws) (names_all c || there (axis_named c) k.desk.axes) (entry AxisOutOfRange c.column) e
    (rest_passed (where_so (among axis_commands m) (needs (there (axis_named c) k.desk.axes) (entry AxisOutOfRange c.column) ∷ [])) _ out) in
    grind (arith, nat_tests)
small_number k m c a g (of_group n e) h p =
    let behind = rest_passed (R.group_missing k m c) _ (rest_passed (R.axis_out k m c) _ (rest_passed (R.axis_missing m c) _ p)) in
    let found = one_passed (among group_commands m) (there (group_named k c) k.desk.groups) (entry GroupOutOfRange c.column) e (front_passed (R.group_out k m c) _ behind) in
    let low : group_named k c ≤ 12 = grind (arith, nat_tests) in
    same_number (cond (eqb (group_count k) 1) 1 0) (prefix_number c) 12 low
