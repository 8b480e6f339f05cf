use Rattle.std.proofs.Common.{rules}
use Rattle.std.proofs.lemmas.List.{map_push, length-map}
use Rattle.queue.proofs.route.Route.add.Goals as goal

pub returns : goal.returns
returns c = search (rules, map_push, length-map)
