-- Worked examples of the definitions.
use Rattle.std.proofs.Common.{◌≡◌, [], ◌∷◌, map, length, Some, None, codes, refl}
use Rattle.command.specs.declared.mnemonic.Mnemonic.TheVariants.{Pa}
use Rattle.command.specs.Mnemonics.{capitals_name}
use Rattle.command.specs.Commands.{field, is_prefix, is_mnemonic, is_parameter, parameters_from, command_of, in_front, commands_from, commands_of, prefix_number}

move : commands_of (codes " 1 pa 2.5, ;; ?") ≡ record {
  column = 2;
  prefix = Some (field is_prefix (2, codes "1"));
  letters = Some (field is_mnemonic (4, codes "pa"));
  mnemonic = Some Pa;
  question = None;
  parameters = field is_parameter (7, codes "2.5") ∷ field is_parameter (11, []) ∷ [];
} ∷ record { column = 15; prefix = None; letters = None; mnemonic = None; question = None; parameters = [] } ∷ []
unfolding commands_from in_front command_of capitals_name parameters_from
move = refl

-- a line of 80 bytes
full : length (commands_of (codes "1VA10;2VA10;3VA10.5;1MO;2MO;3MO;HN1,2;HL5.5,-6.25;HL1,2;HW;1TP;2TP;3TP?;1PA?;TB?")) ≡ 15
unfolding commands_from in_front command_of capitals_name parameters_from
full = refl

crowded : length (commands_of (codes "1;1;1;1;1;1;1;1;1;1;1;1;1;1;1;1;1;1;1;1;1;1;1;1;1;1;1;1;1;1;1;1;1;1;1;1;1;1;1;1;")) ≡ 40
unfolding commands_from in_front command_of capitals_name parameters_from
crowded = refl

listed : map (λ c. length c.parameters) (commands_of (codes "HL,,,,,,,,,,,,,,,,,,,,,,,,,,,,,,,,,,,,,,,,,,,,,,,,,,,,,,,,,,,,,,,,,,,,,,,,,,,,,,")) ≡ 79 ∷ []
unfolding commands_from in_front command_of capitals_name parameters_from
listed = refl

long_prefix : map prefix_number (commands_of (codes "007pa;99999999999999999999999999?")) ≡ Some 7 ∷ Some 99999999999999999999999999 ∷ []
unfolding commands_from in_front command_of capitals_name parameters_from
long_prefix = refl
