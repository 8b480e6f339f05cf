use Rattle.command.specs.Mnemonics.{capitals_name}
use Rattle.command.proofs.Naming.{named}
use Rattle.command.proofs.names.named_by_capitals.Goals as goal

pub returns : goal.returns
unfolding capitals_name
returns c = record { name = c.choose.ensures; letters = named _ _ _ c.choose.ensures }
