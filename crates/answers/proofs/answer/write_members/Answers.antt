use Rattle.std.proofs.Common.{arith}
use Rattle.answers.proofs.Widths.{numbers_short}
use Rattle.answers.proofs.answer.write_members.Goals as goal

pub returns-clause-short : goal.returns-clause-short
returns-clause-short c = numbers_short c.args.axes.now c.requires (λ i. omega (arith, c.type_inv.axes i))
