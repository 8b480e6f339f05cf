use Rattle.std.proofs.Common.{eqb, take, ap, ◌∙◌, rules}
use Rattle.command.specs.Views.{seen as read, said, to_give}
use Rattle.rules.specs.Refusals as R
use Rattle.std.proofs.lemmas.Bool.Decides.{nat_tests}
use Rattle.std.proofs.lemmas.Iterator.{YieldsList-from_take}
use Rattle.std.proofs.lemmas.Iterator.Consumers.{YieldsList-from_first}
use Rattle.std.proofs.lemmas.Iterator.Search.{any_from_yields_List}
use Rattle.checks.proofs.Repeats.{said_by}
use Rattle.checks.proofs.forming.is_among.Goals as goal

pub returns : goal.returns
returns c =
    let ps = (said c.args.command.now).parameters in
    let road = YieldsList-from_take c.args.count (YieldsList-from_first read to_give ps (ap to_give c.take-earlier.ensures.source ∙ c.parameters.ensures.all)) c.take-earlier.ensures.count in
    any_from_yields_List (λ f. eqb (R.units f) c.args.number) _ _ _ c.any.ensures.ran road (λ x b q k. search (rules, nat_tests)) ∙ said_by c.args.number (take c.args.count ps)
