use Rattle.std.proofs.Common.{false, rules}
use Rattle.rules.specs.Deeds.{still}
use Rattle.motion.proofs.waiting.wait_axis.Goals as goal

pub returns : goal.returns
returns g c = c.wait_for.ensures (still false c.args.axis) (λ d e r p. search rules)
