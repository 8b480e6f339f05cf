use Rattle.std.proofs.Common.{not, rules}
use Rattle.command.specs.Views.{seen as read, said, to_give}
use Rattle.asked.specs.Seen.{seen}
use Rattle.rules.specs.Refusals as R
use Rattle.std.proofs.lemmas.Iterator.Consumers.{YieldsList-from_first}
use Rattle.queue.specs.declared.fault.Fault.TheVariants.{GroupAxisAlreadyAssigned}
use Rattle.rules.specs.World.{grouped}
use Rattle.shape.proofs.Walks.{judged_map}
use Rattle.checks.proofs.forming.each_free.Goals as goal

pub returns : goal.returns
returns g c =
    let k = seen g.D.Drive.axes c.args.case.now.view in
    let ps = (said c.args.case.now.command.now).parameters in
    judged_map (YieldsList-from_first read to_give ps c.parameters-given.ensures.all) _ (λ f. R.needs (not (grouped k (R.units f))) (R.entry GroupAxisAlreadyAssigned f.column)) (λ x b q r. search rules) c.try_for_each.ensures.ran
