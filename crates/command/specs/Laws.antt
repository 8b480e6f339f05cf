-- Where commands and their fields stand in the line.
use Rattle.std.specs.Prelude.{◌≡◌, ℕ, ◌+◌, ◌-◌, ◌≤◌, false, List, [], ◌∷◌, ◌++◌, length, take, drop, Some, None, Option, slice_index}
use Rattle.std.specs.List.{AllByRecursion}
use Rattle.command.specs.Lines.{blank}
use Rattle.command.specs.Commands.{Field, Command, least_size, commands_of}

-- the bytes are the line's own from the column on
pub record Stands (line : List ℕ) (column : ℕ) (bytes : List ℕ) : Type 0 where
  pub from : 1 ≤ column
  pub within : column + length bytes ≤ length line + 1
  pub own : bytes ≡ take (length bytes) (drop (column - 1) line)

-- a field, if there is one
abbrev pub listed : Option Field → List Field
listed None = []
listed (Some f) = f ∷ []

-- all fields of a command
abbrev pub fields_of : Command → List Field
fields_of c = listed c.prefix ++ (listed c.letters ++ (listed c.question ++ c.parameters))

-- the command begins at a byte of the line that is no blank, and each field is the line's own bytes from its column on
pub record Placed (line : List ℕ) (c : Command) : Type 0 where
  pub from : 1 ≤ c.column
  pub within : c.column ≤ length line
  pub begins : blank (slice_index line (c.column - 1)) ≡ false
  pub fields : AllByRecursion (λ f. Stands line f.column f.bytes) (fields_of c)

-- every command of the line is placed
abbrev pub CommandsPlaced : List ℕ → Type 0
CommandsPlaced line = AllByRecursion (λ c. Placed line c) (commands_of line)

-- the fewest bytes that a command takes of a line, with the separator behind it
abbrev pub taken : Command → ℕ
taken c = least_size c + 1
