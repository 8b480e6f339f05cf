-- The commands of a line.
use Rattle.std.specs.Prelude.{ℕ, ◌+◌, min, Bool, cond, ◌&&◌, ◌||◌, List, [], ◌∷◌, map, length, take, is_some, Some, None, Option, ◌==◌, nat_lt, slice_index}
use Rattle.std.specs.Option.{option_map}
use Rattle.number.specs.Digits.{digits_before, number}
use Rattle.command.specs.Lines.{Part, trimmed, bare, past, parts}
use Rattle.command.specs.Mnemonics.{mnemonic_of}
use Rattle.command.specs.declared.mnemonic.Mnemonic.{Mnemonic}

-- the kinds of fields
pub data Kind : Type 0 where
  is_prefix : Kind
  is_mnemonic : Kind
  is_parameter : Kind
  is_question : Kind

-- a field of a command: its kind, the column of its first byte, and its bytes
pub record Field : Type 0 where
  pub kind : Kind
  pub column : ℕ
  pub bytes : List ℕ

-- a command: where it begins, and its fields; no mnemonic where its letters name no command
pub record Command : Type 0 where
  pub column : ℕ
  pub prefix : Option Field
  pub letters : Option Field
  pub mnemonic : Option Mnemonic
  pub question : Option Field
  pub parameters : List Field

-- a part as a field
abbrev pub field : Kind → Part → Field
field k p = record { kind = k; column = p.0; bytes = p.1 }

-- the digits in front, if there are any
abbrev pub prefix_of : Part → Option Field
prefix_of p = cond (digits_before p.1 == 0) None (Some (field is_prefix (p.0, take (digits_before p.1) p.1)))

-- the first two bytes, if there are two
abbrev pub letters_of : Part → Option Field
letters_of p = cond (nat_lt (length p.1) 2) None (Some (field is_mnemonic (p.0, take 2 p.1)))

-- what the first two bytes name
abbrev pub named : Part → Option Mnemonic
named p = cond (nat_lt (length p.1) 2) None (mnemonic_of (slice_index p.1 0) (slice_index p.1 1))

-- a question mark and nothing else
abbrev pub asks : List ℕ → Bool
asks xs = length xs == 1 && slice_index xs 0 == 63

-- the question in a rest
abbrev pub question_of : Part → Option Field
question_of p = cond (asks p.1) (Some (field is_question p)) None

-- what stands between commas, without the blanks around it
unfoldable pub parameters_from : Part → List Field
parameters_from p = map (λ q. field is_parameter (bare q)) (parts 44 p.0 p.1)

-- the parameters in a rest: none where it is nothing or a question
abbrev pub parameters_of : Part → List Field
parameters_of p = cond (length p.1 == 0 || asks p.1) [] (parameters_from p)

-- a command at a column, by its prefix, what follows the prefix, and the rest behind the letters
abbrev pub made : ℕ → Option Field → Part → Part → Command
made c prefix body rest = record { column = c; prefix = prefix; letters = letters_of body; mnemonic = named body; question = question_of rest; parameters = parameters_of rest }

-- what follows the digits in front
abbrev pub body_of : Part → Part
body_of p = bare (past (digits_before p.1) p)

-- a part without blanks around it, read as a command
unfoldable pub command_of : Part → Command
command_of p = made p.0 (prefix_of p) (body_of p) (bare (past 2 (body_of p)))

-- the fewest bytes that a command has: a digit where it has a prefix, and two letters where they name it
abbrev pub least_size : Command → ℕ
least_size c = cond (is_some c.prefix) 1 0 + cond (is_some c.mnemonic) 2 0

-- a part read as a command in front of others; skipped where it is blank
unfoldable pub in_front : Part → List Command → List Command
in_front p cs = cond (length (trimmed p.1) == 0) cs (command_of (bare p) ∷ cs)

-- parts read as commands
abbrev pub all_commands : List Part → List Command
all_commands [] = []
all_commands (p ∷ ps) = in_front p (all_commands ps)

-- the commands of a line, or of its end from a column on
unfoldable pub commands_from : Part → List Command
commands_from p = all_commands (parts 59 p.0 p.1)

-- THE commands of a line
abbrev pub commands_of : List ℕ → List Command
commands_of line = commands_from (1, line)

-- the number in front of a command, however large
abbrev pub prefix_number : Command → Option ℕ
prefix_number c = option_map (λ f. number f.bytes) c.prefix

-- numbers from 1000 on count as 1000
abbrev pub capped : ℕ → ℕ
capped n = min n 1000
