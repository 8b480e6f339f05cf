use Rattle.laws.proofs.StrikingSent.{lines_sent}
use Rattle.laws.proofs.StrikingTexts.{lines_struck}
use Rattle.laws.proofs.StrikingRuns.{striking}
use Rattle.laws.proofs.StrikingSample.{sample}
use Rattle.laws.proofs.striking.striking_holds.Goals as goal

pub returns : goal.returns
returns c = record { calls = lines_sent; lines = lines_struck; law = striking; sample = sample }
