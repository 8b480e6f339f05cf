use Rattle.laws.proofs.Instanced.{instances}
use Rattle.laws.proofs.instances_hold.Goals as goal

pub returns : goal.returns
returns c = instances
