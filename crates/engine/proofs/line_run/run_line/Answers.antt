use Rattle.std.proofs.Common.{rules, arith}
use Rattle.number.specs.Writer.{wrote}
use Rattle.engine.proofs.Turns.{whole_written}
use Rattle.engine.proofs.line_run.run_line.Goals as goal

pub returns-clause-whole : goal.returns-clause-whole
unfolding wrote
returns-clause-whole g c = λ few short room. whole_written c.args.out.now _ (search rules) (omega (arith, c.run_each.ensures.short few))
