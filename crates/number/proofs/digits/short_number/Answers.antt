use Rattle.std.proofs.Common.{rules}
use Rattle.number.proofs.Runs.{digit_at, read_more, read_all}
use Rattle.number.proofs.digits.short_number.Goals as goal

pub overflow_sub-c : goal.overflow_sub-c
overflow_sub-c c = search (rules, digit_at)

pub loop-c-preserved : goal.loop-c-preserved
loop-c-preserved c = read_more c.args.digits.now _ _ _ c.requires.digits c.loop-c-test.true c.from.ensures c.loop-c.invariant.0 c.loop-c.invariant.1

pub returns : goal.returns
returns c = search (rules, read_all)
