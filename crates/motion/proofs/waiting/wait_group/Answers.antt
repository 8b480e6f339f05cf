use Rattle.std.proofs.Common.{rules}
use Rattle.rules.specs.Deeds.{group_still}
use Rattle.motion.proofs.waiting.wait_group.Goals as goal

pub returns : goal.returns
returns g c = c.wait_for.ensures (group_still c.args.group) (λ d e r p. search rules)
