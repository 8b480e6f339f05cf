use Rattle.std.proofs.Common.{rules}
use Rattle.queue.proofs.Fronts.{turned}
use Rattle.queue.proofs.slots.drop_oldest.Goals as goal

pub returns : goal.returns
returns g c = search (rules, turned)
