use Rattle.std.proofs.Common.{rules}
use Rattle.std.proofs.lemmas.Option.{slice_get-get_or, slice_get_past}
use Rattle.queue.proofs.slots.at.Goals as goal

pub returns-then-n-entries : goal.returns-then-n-entries
returns-then-n-entries g c = search (rules, slice_get-get_or)

pub returns-else-n-entries : goal.returns-else-n-entries
returns-else-n-entries g c = search (rules, slice_get_past)
