use Rattle.std.proofs.Common.{rules}
use Rattle.std.proofs.iter.SoFar.{exit_by}
use Rattle.number.proofs.Listed.{item_more, some_now}
use Rattle.number.proofs.writer.Writer.list.Goals as goal

pub loop-item-preserved : goal.loop-item-preserved
loop-item-preserved g c = (
  item_more g.T.Item.text c.args.self.now c.loop-item.yielded c.in-Some.item c.loop-item.invariant.0 c.loop-item.invariant.1 c.when.ensures c.put.ensures,
  some_now c.loop-item.yielded c.in-Some.item,
)

pub returns : goal.returns
returns g c =
    let run = exit_by g.I.Iterator.next_gives (c.loop-item.yielded, c.loop-item.yielded_by) c.next.new.self (search rules) in
    record { runs = (run.0, search (rules, run.1), search (rules, run.2), search (rules, run.3, c.loop-item.invariant.0)) }
