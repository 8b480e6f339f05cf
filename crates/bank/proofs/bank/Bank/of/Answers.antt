use Rattle.std.proofs.Common.{replicate, ap, ◌∙◌, arith}
use Rattle.stage.specs.Kinds.{kind_axis}
use Rattle.bank.specs.Arrays.{view_equal}
use Rattle.bank.proofs.bank.Bank.of.Goals as goal

pub returns : goal.returns
returns c = view_equal kind_axis c.count_taken.result 12 c.args.axis (omega arith) ∙ ap (λ n. replicate n (kind_axis c.args.axis)) (omega arith)
