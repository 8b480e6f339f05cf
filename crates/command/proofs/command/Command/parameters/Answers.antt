use Rattle.std.proofs.Common.{◌^◌, ◌<◌, [], length, arith}
use Rattle.std.proofs.lemmas.Bool.{cond_both, leb-true}
use Rattle.command.specs.Commands.{parameters_of}
use Rattle.command.specs.Views.{seen_text, countable}
use Rattle.command.proofs.Least.{parameters_few}
use Rattle.command.proofs.command.Command.parameters.Goals as goal

pub returns-in_default-clause-few : goal.returns-in_default-clause-few
returns-in_default-clause-few c =
    let part = seen_text c.args.self.now.rest in
    cond_both (countable c.args.self.now) (parameters_of part) [] (λ ps. length ps < 2 ^ 64) (λ e. omega (arith, parameters_few part, leb-true _ _ e)) (λ e. omega arith)
