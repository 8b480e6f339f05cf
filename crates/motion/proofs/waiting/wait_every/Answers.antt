use Rattle.std.proofs.Common.{true, rules}
use Rattle.rules.specs.Deeds.{still}
use Rattle.motion.proofs.waiting.wait_every.Goals as goal

pub returns : goal.returns
returns g c = c.wait_for.ensures (still true 0) (λ d e r p. search rules)
