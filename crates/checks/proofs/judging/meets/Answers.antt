use Rattle.std.proofs.Common.{not, sym, ap, ◌∙◌, rules}
use Rattle.command.specs.Views.{said}
use Rattle.asked.specs.Seen.{seen}
use Rattle.rules.specs.Refusals as R
use Rattle.asked.proofs.Stands.{twelve_axes, twelve_groups}
use Rattle.shape.specs.Verdicts.{judged}
use Rattle.shape.proofs.Chains.{passes}
use Rattle.checks.proofs.Sorts.{sort, nobody, small_number}
use Rattle.checks.proofs.judging.meets.Goals as goal

pub returns-then-ignores_prefix : goal.returns-then-ignores_prefix
returns-then-ignores_prefix g c =
    let k = seen g.D.Drive.axes c.args.case.now.view in
    let m = c.args.case.now.m in
    let s = said c.args.case.now.command.now in
    let named = sym c.naming.ensures ∙ c.in_ok-naming.was in
    let asks = c.if-asks.ensures in
    let alone = nobody k m s (sort m) (sym c.if-ignores_prefix.ensures) in
    sym (passes (R.naming k m s) _ named (sym (c.doing_without_prefix.ensures ∙ (alone ∙ ap (λ b. judged (R.where_so (not b) (R.doing k m s))) asks))))

pub with_axis-requires : goal.with_axis-requires
with_axis-requires g c =
    let k = seen g.D.Drive.axes c.args.case.now.view in
    let m = c.args.case.now.m in
    let s = said c.args.case.now.command.now in
    let named = sym c.naming.ensures ∙ c.in_ok-naming.was in
    let d = c.args.case.now.view.desk.now in
    let small = small_number k m s (twelve_axes d) (twelve_groups d) (sort m) (sym c.if-ignores_prefix.ensures) named in
    search rules
