use Rattle.laws.proofs.Whole.{words}
use Rattle.laws.proofs.shared_words_hold.Goals as goal

pub returns : goal.returns
returns c = words
