-- What is left to read.
use Rattle.std.specs.Prelude.{ℕ, ◌+◌, List, length, Some, None, Option}
use Rattle.std.specs.Option.{option_map}
use Rattle.command.specs.Lines.{Part, parts_left}
use Rattle.command.specs.declared.span.Span.{Span}
use Rattle.command.specs.declared.parts.Parts.{Parts}

-- a part of a line that is read
abbrev pub seen_span : Span → Part
seen_span t = (t.column, t.bytes.now)

-- the parts of a text that is left, between separators s
abbrev pub parts_in : ℕ → Option Span → List Part
parts_in s o = parts_left s (option_map seen_span o)

-- the column behind what is left; 0 where nothing is left
abbrev pub end_behind : Option Span → ℕ
end_behind None = 0
end_behind (Some t) = t.column + length t.bytes.now

-- the bytes that are left and one more, since a part that is blank is still to come; 0 where nothing is left
abbrev pub size_left : Option Span → ℕ
size_left None = 0
size_left (Some t) = length t.bytes.now + 1

abbrev pub left_of : {s : ℕ} → Parts s → ℕ
left_of p = size_left p.rest

-- the column behind what is left, and one more; 0 where nothing is left
abbrev pub limit_behind : Option Span → ℕ
limit_behind None = 0
limit_behind (Some t) = t.column + length t.bytes.now + 1
