use Rattle.std.proofs.Common.{rules}
use Rattle.queue.proofs.Fronts.{behind}
use Rattle.queue.proofs.slots.put.Goals as goal

pub returns : goal.returns
returns g c = search (rules, behind)
