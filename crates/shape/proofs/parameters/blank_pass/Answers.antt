use Rattle.std.proofs.Common.{ℕ, not, ◌||◌, List, [], ◌∷◌, refl, ap, ◌∙◌, rules}
use Rattle.std.proofs.lemmas.Iterator.Consumers.{YieldsList-from_first, YieldsList-from_enumerate}
use Rattle.command.specs.Commands.{Field}
use Rattle.command.specs.Views.{seen, said, to_give}
use Rattle.queue.specs.declared.fault.Fault.TheVariants.{ParameterOutOfRange}
use Rattle.rules.specs.World.{core_of}
use Rattle.rules.specs.Refusals as R
use Rattle.shape.specs.Verdicts.{judged}
use Rattle.shape.proofs.Walks.{judged_each, numbered}
use Rattle.shape.proofs.parameters.blank_pass.Goals as goal

pub returns : goal.returns
returns c =
    let k = core_of c.args.case.now.desk.now [] in
    let m = c.args.case.now.m in
    let s = said c.args.case.now.command.now in
    let one : ℕ × Field → List R.Test = λ p. R.needs (not (R.blank_field p.1) || R.allowed k m s p.0) (R.entry ParameterOutOfRange s.column) ∷ [] in
    let road = YieldsList-from_enumerate (YieldsList-from_first seen to_give s.parameters (ap to_give c.enumerate-given.ensures.source ∙ c.parameters.ensures.all)) c.enumerate-given.ensures.count in
    judged_each road _ one (λ x b q r. search rules) c.try_for_each.ensures.ran ∙ ap judged (numbered one (R.blank_pass k m s) (λ i. refl) (λ i f fs. refl) 0 s.parameters)
