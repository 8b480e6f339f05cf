-- Striking: commands that were refused, and lines that are too long, can be taken out of a run, and nothing else changes. Assumes nothing.
use Rattle.std.specs.Prelude.{◌≡◌, ℕ, suc, ◌+◌, ◌≤◌, Bool, true, false, cond, ◌&&◌, List, [], ◌∷◌, ◌++◌, map, length, take, drop, replicate, Some, None, Ok, Err, codes, Option, Result, ◌==◌}
use Rattle.std.specs.List.{prefix_len}
use Rattle.std.specs.Option.{option_map}
use Rattle.number.specs.Writing.{write}
use Rattle.command.specs.declared.mnemonic.Mnemonic.{Mnemonic}
use Rattle.command.specs.Lines.{blank, apart, line_of, trimmed, parts}
use Rattle.command.specs.Commands.{Field, Command, commands_of}
use Rattle.queue.specs.declared.fault.Fault.{Fault}
use Rattle.queue.specs.declared.fault.Fault.TheVariants.{VelocityExceeded, VelocityOutOfRange}
use Rattle.queue.specs.declared.refusal.Refusal.{Refusal}
use Rattle.queue.specs.Refusals.{number_of}
use Rattle.rules.specs.World.{World}
use Rattle.rules.specs.Kinds.{among, error_commands}
use Rattle.rules.specs.Refusals.{entry}
use Rattle.rules.specs.Samples.{sample_open, said}
use Rattle.rules.specs.Steps.{Outcome, refused, replied, all_replies}
use Rattle.rules.specs.Calls.{too_long, line_taken, line_call, ticks_call}
use Rattle.rules.specs.Runs.{Call, line_sent, ticks_made, error_asked, called, call_outcomes, run, report}

-- ---- which are struck

-- a choice of what is to be struck, whatever it is: lines by the number of their call, commands by the number of their call and
-- their own number in the line, both counted from 0; and whether the blanks around a struck command go with it or stay
pub record Marks : Type 0 where
  pub lines : ℕ → Bool
  pub commands : ℕ → ℕ → Bool
  pub blanks : Bool

-- the choice for the calls behind the first
abbrev pub later_marks : Marks → Marks
later_marks m = record { lines = λ n. m.lines (suc n); commands = λ n. m.commands (suc n); blanks = m.blanks }

-- the command was refused
abbrev pub turned_down : Outcome → Bool
turned_down (refused e) = true
turned_down (replied bytes) = false

-- a flag for each command of a line, in order, by what came of it: a marked command is struck where it was refused
abbrev pub flags : (ℕ → Bool) → List Outcome → List Bool
flags marked [] = []
flags marked (o ∷ os) = (marked 0 && turned_down o) ∷ flags (λ n. marked (suc n)) os

-- the first flag, and those behind it; a command without a flag is not struck
abbrev pub first_flag : List Bool → Bool
first_flag [] = false
first_flag (b ∷ bs) = b

abbrev pub later_flags : List Bool → List Bool
later_flags [] = []
later_flags (b ∷ bs) = bs

-- what is left of a list without those that are flagged
abbrev pub unflagged : {A : Type 0} → List Bool → List A → List A
unflagged bs [] = []
unflagged bs (x ∷ xs) = cond (first_flag bs) (unflagged (later_flags bs) xs) (x ∷ unflagged (later_flags bs) xs)

-- ---- the bytes that go

-- what stands between the semicolons of a line
abbrev pub texts : List ℕ → List (List ℕ)
texts line = map (λ p. p.1) (parts 59 1 line)

-- texts with a semicolon in front of each
abbrev pub behind : List (List ℕ) → List ℕ
behind [] = []
behind (t ∷ ts) = 59 ∷ (t ++ behind ts)

-- texts as a line, with the semicolons between them
abbrev pub together : List (List ℕ) → List ℕ
together [] = []
together (t ∷ ts) = t ++ behind ts

-- a text of blanks alone holds no command
abbrev pub all_blank : List ℕ → Bool
all_blank t = length (trimmed t) == 0

-- what is left of a text without its command's bytes, which go from its first byte that is no blank to its last: nothing, or the blanks
-- that stand before and behind them
abbrev pub without_command : Bool → List ℕ → List ℕ
without_command true t = []
without_command false t = take (prefix_len blank t) t ++ drop (prefix_len blank t + length (trimmed t)) t

-- each text without its command's bytes where the command is flagged
abbrev pub struck_texts : Bool → List Bool → List (List ℕ) → List (List ℕ)
struck_texts blanks bs [] = []
struck_texts blanks bs (t ∷ ts) =
    cond (all_blank t) (t ∷ struck_texts blanks bs ts) (cond (first_flag bs) (without_command blanks t) t ∷ struck_texts blanks (later_flags bs) ts)

-- a line without the bytes of the flagged commands; every semicolon stays
abbrev pub struck_line : Bool → List Bool → List ℕ → List ℕ
struck_line blanks bs line = together (struck_texts blanks bs (texts line))

-- how many bytes stand before the first CR
abbrev pub before_cr : List ℕ → ℕ
before_cr bytes = prefix_len (apart 13) bytes

-- a call's bytes: the line before the first CR is struck, the CR and what stands behind it are kept
abbrev pub struck_bytes : Bool → List Bool → List ℕ → List ℕ
struck_bytes blanks bs bytes = struck_line blanks bs (take (before_cr bytes) bytes) ++ drop (before_cr bytes) bytes

abbrev pub struck_call : Bool → List Bool → Call → Call
struck_call blanks bs (line_sent bytes room) = line_sent (struck_bytes blanks bs bytes) room
struck_call blanks bs (ticks_made n) = ticks_made n
struck_call blanks bs (error_asked n) = error_asked n

-- ---- calls that go

-- a line that is over 80 bytes long
abbrev pub over_long : Option (List ℕ × ℕ) → Bool
over_long None = false
over_long (Some l) = too_long l.0

abbrev pub long_line : Call → Bool
long_line (line_sent bytes room) = over_long (line_of bytes)
long_line (ticks_made n) = false
long_line (error_asked n) = false

-- THE calls that are left of a run, by the report of it, which has an entry for each call: the call of a marked line that is too long
-- goes, its CR with it (also where the call was refused by number, which changes nothing); of the other lines the bytes of the marked
-- commands go that were refused
abbrev pub strike : Marks → List Call → List (List Outcome) → List Call
strike m [] rs = []
strike m (x ∷ xs) [] = []
strike m (x ∷ xs) (os ∷ rs) =
    cond (m.lines 0 && long_line x) (strike (later_marks m) xs rs) (struck_call m.blanks (flags (m.commands 0) os) x ∷ strike (later_marks m) xs rs)

-- ---- what is compared

-- what is seen of a command: the fault that it was refused for, without the column, since columns shift; or its reply; of TB and TE,
-- which tell the errors, only that they were carried out, since errors that came of struck commands are missing
pub data Seen : Type 0 where
  faulted : Fault → Seen
  answered : List ℕ → Seen
  errors_told : Seen

abbrev pub tells_errors : Option Mnemonic → Bool
tells_errors None = false
tells_errors (Some m) = among error_commands m

abbrev pub seen_reply : Bool → List ℕ → Seen
seen_reply true bytes = errors_told
seen_reply false bytes = answered bytes

abbrev pub seen : Command → Outcome → Seen
seen c (refused e) = faulted e.fault
seen c (replied bytes) = seen_reply (tells_errors c.mnemonic) bytes

-- a command without its columns: its fields with their bytes, each column 0
abbrev pub field_without_column : Field → Field
field_without_column f = record { kind = f.kind; column = 0; bytes = f.bytes }

abbrev pub without_columns : Command → Command
without_columns c =
    record {
      column = 0;
      prefix = option_map field_without_column c.prefix;
      letters = option_map field_without_column c.letters;
      mnemonic = c.mnemonic;
      question = option_map field_without_column c.question;
      parameters = map field_without_column c.parameters;
    }

-- which command it was, and what is seen of it
pub record Shown : Type 0 where
  pub command : Command
  pub result : Seen

abbrev pub shown : Command → Outcome → Shown
shown c o = record { command = without_columns c; result = seen c o }

-- of each command of a line
abbrev pub shown_all : List Command → List Outcome → List Shown
shown_all [] os = []
shown_all (c ∷ cs) [] = []
shown_all (c ∷ cs) (o ∷ os) = shown c o ∷ shown_all cs os

-- the commands of a call; nothing is shown of them where the call is refused or the line too long
abbrev pub commands_found : Option (List ℕ × ℕ) → List Command
commands_found None = []
commands_found (Some l) = commands_of l.0

abbrev pub commands_in : Call → List Command
commands_in (line_sent bytes room) = commands_found (line_of bytes)
commands_in (ticks_made n) = []
commands_in (error_asked n) = []

-- what a run shows: of each call, of each of its commands
abbrev pub shown_run : List Call → List (List Outcome) → List (List Shown)
shown_run [] rs = []
shown_run (x ∷ xs) [] = []
shown_run (x ∷ xs) (os ∷ rs) = shown_all (commands_in x) os ∷ shown_run xs rs

-- the same without what is struck
abbrev pub shown_left : Marks → List Call → List (List Outcome) → List (List Shown)
shown_left m [] rs = []
shown_left m (x ∷ xs) [] = []
shown_left m (x ∷ xs) (os ∷ rs) =
    cond (m.lines 0 && long_line x) (shown_left (later_marks m) xs rs) (unflagged (flags (m.commands 0) os) (shown_all (commands_in x) os) ∷ shown_left (later_marks m) xs rs)

-- the number that a call answers: 0 where it is accepted, or that of its refusal; error views apart, which show errors
abbrev pub taken_number : Result (List ℕ × ℕ) Refusal → ℕ
taken_number (Err r) = number_of r
taken_number (Ok l) = 0

abbrev pub call_number : World → Call → ℕ
call_number w (line_sent bytes room) = taken_number (line_taken w bytes room)
call_number w (ticks_made n) = (ticks_call w n).0.number
call_number w (error_asked n) = 0

-- of each call of a run
abbrev pub call_numbers : World → List Call → List ℕ
call_numbers w [] = []
call_numbers w (x ∷ xs) = call_number w x ∷ call_numbers (called w x) xs

-- the same without the calls that go
abbrev pub numbers_left : Marks → List Call → List ℕ → List ℕ
numbers_left m [] ns = []
numbers_left m (x ∷ xs) [] = []
numbers_left m (x ∷ xs) (n ∷ ns) = cond (m.lines 0 && long_line x) (numbers_left (later_marks m) xs ns) (n ∷ numbers_left (later_marks m) xs ns)

-- ---- the laws

-- What is shown is what the calls do: a line sent is the line call with a reply buffer of that size. The numbers agree, the world after
-- it is the one that the run goes on from, and the bytes written are the replies of its commands, one behind the other.
pub record LineSent (w : World) (bytes buffer : List ℕ) : Type 0 where
  pub number : (line_call w bytes buffer).0.number ≡ call_number w (line_sent bytes (length buffer))
  pub world : (line_call w bytes buffer).1.0 ≡ called w (line_sent bytes (length buffer))
  pub written : (line_call w bytes buffer).1.1 ≡ (write buffer 0 (all_replies (call_outcomes w (line_sent bytes (length buffer))))).1

abbrev pub LinesSent : Type 0
LinesSent = (w : World) (bytes buffer : List ℕ) → LineSent w bytes buffer

-- What striking does to a line, whatever is flagged: read again, it has the same texts between the same semicolons, but for those of the
-- flagged commands; its commands are the others, the same but for their columns, in the same order; it is not longer; and where nothing
-- is flagged it is the line itself.
pub record LineStruck (blanks : Bool) (bs : List Bool) (line : List ℕ) : Type 0 where
  pub texts_left : texts (struck_line blanks bs line) ≡ struck_texts blanks bs (texts line)
  pub commands_left : map without_columns (commands_of (struck_line blanks bs line)) ≡ unflagged bs (map without_columns (commands_of line))
  pub short : length (struck_line blanks bs line) ≤ length line
  pub untouched : struck_line blanks [] line ≡ line

abbrev pub LinesStruck : Type 0
LinesStruck = (blanks : Bool) (bs : List Bool) (line : List ℕ) → LineStruck blanks bs line

-- what is left of the run xs from the world w, by the choice m
abbrev pub left_of : World → Marks → List Call → List Call
left_of w m xs = strike m xs (report w xs)

-- The run of what is left is that of the commands left, in the same order, and shows for each what it showed before: its reply, or the
-- fault that it was refused for. Every call left answers the number that it answered before. And the run ends with the same core: the
-- same settings, groups and waypoints on the desk, and the same axes in the drive.
pub record Struck (w : World) (m : Marks) (xs : List Call) : Type 0 where
  pub same : shown_run (left_of w m xs) (report w (left_of w m xs)) ≡ shown_left m xs (report w xs)
  pub numbers : call_numbers w (left_of w m xs) ≡ numbers_left m xs (call_numbers w xs)
  pub ends : (run w (left_of w m xs)).core ≡ (run w xs).core

-- THE law: from every world, for every list of calls, refused ones among them, and every choice
abbrev pub Striking : Type 0
Striking = (w : World) (m : Marks) (xs : List Call) → Struck w m xs

-- ---- a run in which it bites

-- after the sample opening: a line with two refused commands between two others, a line of 81 blanks, and the oldest error's code
abbrev pub sample_calls : List Call
sample_calls = line_sent (codes "1VA5; 1VA99 ;1VA0;1VA?" ++ 13 ∷ []) 4096 ∷ line_sent (replicate 81 32 ++ 13 ∷ []) 4096 ∷ line_sent (codes "TE" ++ 13 ∷ []) 4096 ∷ []

-- every line is marked, and of each line the second command
abbrev pub sample_marks : Bool → Marks
sample_marks blanks = record { lines = λ n. true; commands = λ n i. (i == 1); blanks = blanks }

abbrev pub sample_left : List Call
sample_left = line_sent (codes "1VA5;  ;1VA0;1VA?" ++ 13 ∷ []) 4096 ∷ line_sent (codes "TE" ++ 13 ∷ []) 4096 ∷ []

pub record StrikingSample : Type 0 where
  -- 110 at column 10 and 124 at column 17; the line too long has no command; TE tells 110
  pub before : report sample_open.1 sample_calls ≡ (replied [] ∷ refused (entry (VelocityExceeded 1) 10) ∷ refused (entry (VelocityOutOfRange 1) 17) ∷ replied (said (codes "5")) ∷ []) ∷ [] ∷ (replied (said (codes "110")) ∷ []) ∷ []
  -- the second command's bytes go, and the call of the line too long
  pub struck : left_of sample_open.1 (sample_marks false) sample_calls ≡ sample_left
  -- the blanks around it go too
  pub closer : strike (sample_marks true) sample_calls (report sample_open.1 sample_calls) ≡ line_sent (codes "1VA5;;1VA0;1VA?" ++ 13 ∷ []) 4096 ∷ line_sent (codes "TE" ++ 13 ∷ []) 4096 ∷ []
  -- 124 at column 12; TE, which tells another error now, is why TB and TE are apart
  pub after : report sample_open.1 sample_left ≡ (replied [] ∷ refused (entry (VelocityOutOfRange 1) 12) ∷ replied (said (codes "5")) ∷ []) ∷ (replied (said (codes "124")) ∷ []) ∷ []
  -- what is compared is the same
  pub results : map (map (λ s. s.result)) (shown_left (sample_marks false) sample_calls (report sample_open.1 sample_calls)) ≡ (answered [] ∷ faulted (VelocityOutOfRange 1) ∷ answered (said (codes "5")) ∷ []) ∷ (errors_told ∷ []) ∷ []
