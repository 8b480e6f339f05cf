use Rattle.std.proofs.Common.{rules}
use Rattle.queue.proofs.Fronts.{front_min}
use Rattle.queue.proofs.slots.front.Goals as goal

pub returns : goal.returns
returns g c = search (rules, front_min)
