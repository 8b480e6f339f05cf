use Rattle.std.proofs.Common.{arith}
use Rattle.stage.specs.Kinds.{kind_axis}
use Rattle.bank.specs.Arrays.{changed_err}
use Rattle.bank.proofs.bank.Bank.change.Goals as goal

pub returns-in_err-i : goal.returns-in_err-i
returns-in_err-i g c f met = changed_err kind_axis f c.args.self.now.count c.args.self.now.axes c.args.axis c.from_residual.result c.in_err-i.field-0.0 (omega arith) c.in_err-i.ensures c.from_residual.ensures.1
