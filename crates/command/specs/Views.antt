-- What the reader's values mean.
use Rattle.std.specs.Prelude.{ℕ, ◌+◌, ◌^◌, Bool, cond, List, [], ◌∷◌, map, length, Some, None, Option, nat_le}
use Rattle.std.specs.Option.{option_map}
use Rattle.command.specs.Held.{seen_span, parts_in, left_of, end_behind, limit_behind}
use Rattle.command.specs.Lines.{Part, bare}
use Rattle.command.specs.Commands.{Field, field, is_prefix, is_mnemonic, is_parameter, is_question, Command, question_of, parameters_of, all_commands}
use Rattle.command.specs.declared.text.Text.{Text}
use Rattle.command.specs.declared.text.Field as lent
use Rattle.command.specs.declared.text.Field.TheVariants.{Prefix, Mnemonic, Parameter, Question}
use Rattle.command.specs.declared.line.Line.{Line}
use Rattle.command.specs.declared.command.Command as lent_command
use Rattle.command.specs.declared.commands.Commands.{Commands}
use Rattle.command.specs.declared.parameters.Parameters.{Parameters}

-- a line and the bytes taken
abbrev pub seen_line : Line → List ℕ × ℕ
seen_line l = (l.bytes.now, l.taken)

-- a part of a line
abbrev pub seen_text : Text → Part
seen_text t = (t.column, t.bytes.now)

-- a field
abbrev pub seen : lent.Field → Field
seen (Prefix t) = field is_prefix (seen_text t)
seen (Mnemonic t) = field is_mnemonic (seen_text t)
seen (Parameter t) = field is_parameter (seen_text t)
seen (Question t) = field is_question (seen_text t)

-- the part that a field is
abbrev pub text_of : lent.Field → Text
text_of (Prefix t) = t
text_of (Mnemonic t) = t
text_of (Parameter t) = t
text_of (Question t) = t

-- a command whose rest ends at column 2 ^ 63 at the latest, as it does in every line
abbrev pub countable : lent_command.Command → Bool
countable c = nat_le (c.rest.column + length c.rest.bytes.now) (2 ^ 63)

-- fields of such a command; none of any other
abbrev pub when_countable : lent_command.Command → List Field → List Field
when_countable c fs = cond (countable c) fs []

-- a command; one that is made by hand and ends behind that column has no parameters
abbrev pub said : lent_command.Command → Command
said c = record { column = c.column; prefix = option_map seen c.prefix; letters = option_map seen c.letters; mnemonic = c.mnemonic; question = question_of (seen_text c.rest); parameters = when_countable c (parameters_of (seen_text c.rest)) }

-- the commands still to come
abbrev pub to_come : Commands → List Command
to_come s = all_commands (parts_in 59 s.rest.rest)

-- what is left of the line, and the column where it begins
abbrev pub seen_line_left : Commands → Option Part
seen_line_left s = option_map seen_span s.rest.rest

-- the column behind the line; 0 where nothing is left of it
abbrev pub end_of : Commands → ℕ
end_of s = end_behind s.rest.rest

-- the bytes left of the line and one more, for the end that the last command has in place of a semicolon; 0 where nothing is left
abbrev pub room_left : Commands → ℕ
room_left s = left_of s.rest

-- a command that comes, and those behind it; none where none comes
abbrev pub comes : Option lent_command.Command → List Command → List Command
comes None cs = []
comes (Some c) cs = said c ∷ cs

-- the parameters still to be given
abbrev pub to_give : Parameters → List Field
to_give s = map (λ q. field is_parameter (bare q)) (parts_in 44 s.rest.rest)

-- the column behind the parameters, and one more; 0 where none are left
abbrev pub limit_of : Parameters → ℕ
limit_of s = limit_behind s.rest.rest

-- a parameter that is given, and those behind it; none where none is
abbrev pub gives : Option lent.Field → List Field → List Field
gives None fs = []
gives (Some f) fs = seen f ∷ fs
