use Rattle.rules.proofs.Sampled.{samples}
use Rattle.rules.proofs.samples_hold.Goals as goal

pub returns : goal.returns
returns c = samples
