-- The run in which striking bites, computed.
use Rattle.std.proofs.Common.{refl}
use Rattle.number.specs.Decimals.{magnitude_of, signed_of}
use Rattle.number.specs.Texts.{whole_text, fixed, shortened, setting_text, position_text, list_text}
use Rattle.command.specs.Mnemonics.{capitals_name}
use Rattle.command.specs.Commands.{parameters_from, command_of, in_front, commands_from}
use Rattle.laws.specs.Strike.{StrikingSample}

pub sample : StrikingSample
unfolding magnitude_of signed_of whole_text fixed shortened setting_text position_text list_text capitals_name parameters_from command_of in_front commands_from
sample = record { before = refl; struck = refl; closer = refl; after = refl; results = refl }
