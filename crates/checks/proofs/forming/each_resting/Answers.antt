use Rattle.std.proofs.Common.{◌≤◌, arith, rules}
use Rattle.std.proofs.lemmas.Iterator.Adapters.{serves_from_places}
use Rattle.std.proofs.lemmas.Iterator.Consumers.{YieldsList-from_first}
use Rattle.command.specs.Views.{seen as read, said, to_give}
use Rattle.queue.specs.declared.fault.Fault.TheVariants.{ChangeNotAllowed}
use Rattle.asked.specs.Seen.{seen}
use Rattle.asked.proofs.Stands.{twelve_axes}
use Rattle.rules.specs.World.{resting}
use Rattle.rules.specs.Refusals as R
use Rattle.shape.proofs.Walks.{judged_map}
use Rattle.checks.proofs.Repeats.{each_there}
use Rattle.checks.proofs.forming.each_resting.Goals as goal

pub try_for_each-requires-clause-callable : goal.try_for_each-requires-clause-callable
try_for_each-requires-clause-callable g c =
    let view = c.args.case.now.view in
    let ps = (said c.args.case.now.command.now).parameters in
    let few = twelve_axes view.desk.now in
    serves_from_places (YieldsList-from_first read to_give ps c.parameters-given.ensures.all) (λ x q k. search rules)
    (λ x i l e. let there = each_there (seen g.D.Drive.axes view) ps c.requires (read x) i l e in let small : R.units (read x) ≤ 12 = omega (arith, there, few) in search (rules, small))

pub returns : goal.returns
returns g c =
    let k = seen g.D.Drive.axes c.args.case.now.view in
    let s = said c.args.case.now.command.now in
    judged_map (YieldsList-from_first read to_give s.parameters c.parameters-given.ensures.all) _ (λ f. R.needs (resting k (R.units f)) (R.entry (ChangeNotAllowed (R.units f)) s.column)) (λ x b q r. search rules) c.try_for_each.ensures.ran
