-- A command without its columns: what it is judged by, does and answers is the same. Assumes nothing.
use Rattle.std.proofs.Common.{◌≡◌, suc, Bool, true, false, not, ◌&&◌, List, [], ◌∷◌, ◌++◌, map, length, is_some, Some, None, Option, sym, refl, ap, ◌∙◌}
use mathlib.Core.List.{map-append}
use Rattle.std.specs.Option.{option_map}
use Rattle.number.specs.Digits.{number}
use Rattle.command.specs.Commands.{Field, Command, prefix_number}
use Rattle.queue.specs.declared.error_entry.ErrorEntry.{ErrorEntry}
pub use Rattle.laws.specs.Strike.{field_without_column as field-view, without_columns as view}
use Rattle.rules.specs.Refusals.{Test, needs, refusal, where_so, value, units, given, first_of, column_or, given_column, blank_field, none_blank}

-- an error entry, and a test, with column 0
abbrev pub entry_view : ErrorEntry → ErrorEntry
entry_view e = record { fault = e.fault; column = 0 }

abbrev pub test_view : Test → Test
test_view (needs b e) = needs b (entry_view e)

-- ---- what a command says without its columns

prefix_same : (p : Option Field) → option_map (λ f. number f.bytes) (option_map field-view p) ≡ option_map (λ f. number f.bytes) p
prefix_same None = refl
prefix_same (Some f) = refl

pub number_view : (c : Command) → prefix_number (view c) ≡ prefix_number c
number_view c = prefix_same c.prefix

some_same : (p : Option Field) → is_some (option_map field-view p) ≡ is_some p
some_same None = refl
some_same (Some f) = refl

pub question_view : (c : Command) → is_some (view c).question ≡ is_some c.question
question_view c = some_same c.question

pub first_view : (fs : List Field) → first_of (map field-view fs) ≡ first_of fs
first_view [] = refl
first_view (f ∷ fs) = refl

pub given_view : (c : Command) → given (view c) ≡ given c
given_view c = first_view c.parameters

column_none : (fs : List Field) → column_or 0 (map field-view fs) ≡ 0
column_none [] = refl
column_none (f ∷ fs) = refl

pub column_view : (c : Command) → given_column (view c) ≡ 0
column_view c = column_none c.parameters

pub values_view : (fs : List Field) → map value (map field-view fs) ≡ map value fs
values_view [] = refl
values_view (f ∷ fs) = ap (λ vs. value f ∷ vs) (values_view fs)

pub units_view : (fs : List Field) → map units (map field-view fs) ≡ map units fs
units_view [] = refl
units_view (f ∷ fs) = ap (λ vs. units f ∷ vs) (units_view fs)

pub count_view : (fs : List Field) → length (map field-view fs) ≡ length fs
count_view [] = refl
count_view (f ∷ fs) = ap suc (count_view fs)

pub blank_view : (fs : List Field) → none_blank (map field-view fs) ≡ none_blank fs
blank_view [] = refl
blank_view (f ∷ fs) = ap (λ b. not (blank_field f) && b) (blank_view fs)

-- ---- lists of tests

pub where_view : (b : Bool) (us ts : List Test) → us ≡ map test_view ts → where_so b us ≡ map test_view (where_so b ts)
where_view true us ts e = e
where_view false us ts e = refl

pub append_view : (vs ts ws us : List Test) → vs ≡ map test_view ts → ws ≡ map test_view us → vs ++ ws ≡ map test_view (ts ++ us)
append_view vs ts ws us d e = (λ i. d i ++ e i) ∙ sym (map-append test_view ts us)

-- the first that fails is the same, but for the column
pub refusal_view : (ts : List Test) → refusal (map test_view ts) ≡ option_map entry_view (refusal ts)
refusal_view [] = refl
refusal_view (needs true e ∷ ts) = refusal_view ts
refusal_view (needs false e ∷ ts) = refl
