-- The runs in which each law has something to say, computed.
use Rattle.std.proofs.Common.{replicate, refl, arith}
use Rattle.std.proofs.lemmas.Int.{ints}
use Rattle.std.specs.List.{flat_map}
use Rattle.drive.specs.Model.{SoundAxis, Sound}
use Rattle.stage.specs.Stages.{fresh_axis}
use Rattle.stage.specs.Travel.{instant_travel}
use Rattle.number.specs.Decimals.{magnitude_of, signed_of}
use Rattle.number.specs.Texts.{whole_text, fixed, shortened, setting_text, position_text, list_text}
use Rattle.number.specs.Writing.{write}
use Rattle.command.specs.Mnemonics.{capitals_name}
use Rattle.command.specs.Commands.{parameters_from, command_of, in_front, commands_from}
use Rattle.setup.specs.Records.{bytes_of}
use Rattle.rules.specs.Calls.{unopened}
use Rattle.rules.specs.Samples.{sample_record, sample_drive}
use Rattle.laws.specs.Instances.{Instances, records}
use Rattle.laws.proofs.Whole.{every_run_lawful}

instant_sound : SoundAxis (fresh_axis instant_travel 2000000000)
instant_sound = record {
  some_reach = omega arith;
  most_reach = omega arith;
  position_in = omega arith;
  target_in = omega arith;
  unpowered = λ e. refl;
  fair = λ p t q hp ht. record { up = λ h. (h, omega (arith, ints)); down = λ h. (omega (arith, ints), h); nearer_up = λ h. h; nearer_down = λ h. h };
}

sample_sound : Sound sample_drive
sample_sound = record { least = omega arith; most = omega arith; each = (instant_sound, (instant_sound, (instant_sound, tt))) }

pub instances : Instances
unfolding magnitude_of signed_of whole_text fixed shortened setting_text position_text list_text write capitals_name parameters_from command_of in_front commands_from
instances =
    record {
      lawful = every_run_lawful (unopened sample_drive) (flat_map bytes_of (replicate 3 sample_record)) records sample_sound refl refl;
      waypoint_told = refl;
      group_due = refl;
      own_changed = refl;
      at_most = refl;
      taken_once = refl;
      not_freed = refl;
      never_taken = refl;
      profile_stays = refl;
      freed_once = refl;
      own_carried = refl;
      own_due = refl;
      at_limit = refl;
      the_limit = refl;
    }
