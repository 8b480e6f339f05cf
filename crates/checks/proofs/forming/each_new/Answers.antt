use Rattle.std.proofs.Common.{refl, ap, ◌∙◌, rules}
use Rattle.command.specs.Views.{seen as read, said, to_give}
use Rattle.std.proofs.lemmas.Iterator.Consumers.{YieldsList-from_first, YieldsList-from_enumerate}
use Rattle.shape.specs.Verdicts.{judged}
use Rattle.shape.proofs.Walks.{judged_each}
use Rattle.checks.proofs.Repeats.{new_test, new_each}
use Rattle.checks.proofs.forming.each_new.Goals as goal

pub returns : goal.returns
returns c =
    let ps = (said c.args.command.now).parameters in
    let road = YieldsList-from_enumerate (YieldsList-from_first read to_give ps (ap to_give c.enumerate-given.ensures.source ∙ c.parameters.ensures.all)) c.enumerate-given.ensures.count in
    judged_each road _ (new_test ps) (λ x b q r. search rules) c.try_for_each.ensures.ran ∙ ap judged (new_each ps 0 ps refl)
