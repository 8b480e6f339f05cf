-- The worked lines, computed.
use Rattle.std.proofs.Common.{refl}
use Rattle.number.specs.Decimals.{magnitude_of, signed_of}
use Rattle.number.specs.Texts.{whole_text, fixed, shortened, setting_text, position_text, list_text}
use Rattle.number.specs.Writing.{write}
use Rattle.command.specs.Mnemonics.{capitals_name}
use Rattle.command.specs.Commands.{parameters_from, command_of, in_front, commands_from}
use Rattle.rules.specs.Samples.{Samples}

pub samples : Samples
unfolding magnitude_of signed_of whole_text fixed shortened setting_text position_text list_text write capitals_name parameters_from command_of in_front commands_from
samples =
    record {
      opens = refl;
      minus_ten = refl;
      half = refl;
      rounded_up = refl;
      rounded_down = refl;
      no_minus = refl;
      velocity = refl;
      move = refl;
      limits = refl;
      group_figures = refl;
      group_axes = refl;
      naming = refl;
      long_enough = refl;
      too_long = refl;
    }
