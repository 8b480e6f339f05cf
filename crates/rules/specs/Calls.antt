-- The calls: opening, line, ticks and error view. Each gives the answer as a number (0, or that of the refusal) and values, the world after
-- it, and the line call every byte of the reply buffer. Assumes nothing.
use Rattle.std.specs.Prelude.{ℕ, Bool, true, false, cond, ◌&&◌, List, [], ◌∷◌, map, length, ℤ, Some, None, Ok, Err, Option, Result, int_le, nat_le, nat_lt, unsigned_abs}
use Rattle.drive.specs.Model.{Axis}
use Rattle.drive.specs.Calls.{power_off, replay}
use Rattle.number.specs.Writing.{write}
use Rattle.command.specs.Lines.{line_of}
use Rattle.command.specs.Commands.{commands_of}
use Rattle.queue.specs.declared.error_entry.ErrorEntry.{ErrorEntry}
use Rattle.queue.specs.declared.fault.Fault.TheVariants.{LineTooLong}
use Rattle.queue.specs.declared.refusal.Refusal.{Refusal}
use Rattle.queue.specs.declared.refusal.Refusal.TheVariants.{DriveMismatch, OutsideLimits, ReplyTooSmall, LineOpen, TickCount, NoSuchError}
use Rattle.queue.specs.Refusals.{number_of}
use Rattle.queue.specs.Faults.{code_of}
use Rattle.queue.specs.Errors.{nth_error}
use Rattle.setup.specs.declared.record.SetupRecord.{SetupRecord}
use Rattle.setup.specs.Setups.{decoded}
use Rattle.desk.specs.declared.axis_settings.AxisSettings.{AxisSettings}
use Rattle.desk.specs.Desks.{unopened_desk, opened_desk}
use Rattle.rules.specs.World.{World, numbers}
use Rattle.rules.specs.Refusals.{entry}
use Rattle.rules.specs.Deeds.{beats}
use Rattle.rules.specs.Steps.{Outcome, with_error, run_commands, outcomes, all_replies}

-- an answer: a number, 0 where the call is accepted, and the values that go with it
pub record Answer : Type 0 where
  pub number : ℕ
  pub values : List ℕ

abbrev pub refusing : Refusal → Answer
refusing r = record { number = number_of r; values = [] }

abbrev pub accepting : List ℕ → Answer
accepting values = record { number = 0; values = values }

-- a console that was never opened, over a drive
abbrev pub unopened : List Axis → World
unopened axes = record { core = record { desk = unopened_desk; drive = axes }; errors = [] }

-- ---- desk and drive together

-- a limit is within the reach
abbrev pub within_reach : Axis → ℤ → Bool
within_reach a z = nat_le (unsigned_abs z) a.reach

-- as many axes on the desk as the drive has, and no limit passes its axis's reach
abbrev pub matches : List AxisSettings → List Axis → Bool
matches [] [] = true
matches [] (a ∷ axes) = false
matches (s ∷ ss) [] = false
matches (s ∷ ss) (a ∷ axes) = within_reach a s.left && within_reach a s.right && matches ss axes

-- every position lies within its limits
abbrev pub placed : List AxisSettings → List Axis → Bool
placed [] axes = true
placed (s ∷ ss) [] = true
placed (s ∷ ss) (a ∷ axes) = int_le s.left a.position && int_le a.position s.right && placed ss axes

-- ---- opening

-- power is cut on all axes, groups and errors are empty, and each axis has the settings of its record
abbrev pub opened : List SetupRecord → List Axis → World
opened rs axes = record { core = record { desk = opened_desk rs; drive = replay (map power_off (numbers (length axes))) axes }; errors = [] }

abbrev pub open_with : World → Result (List SetupRecord) Refusal → Answer × World
open_with w (Err r) = (refusing r, w)
open_with w (Ok rs) =
    cond (matches (opened_desk rs).axes w.core.drive)
    (cond (placed (opened_desk rs).axes w.core.drive) (accepting [], opened rs w.core.drive) (refusing OutsideLimits, w))
    (refusing DriveMismatch, w)

-- 9001, 9002 for the records, then 9003, then 9004
abbrev pub open_call : World → List ℕ → Answer × World
open_call w records = open_with w (decoded records)

-- ---- a line

-- the commands of the line in turn; over 80 bytes none is run, and 91 is noted at column 1
abbrev pub too_long : List ℕ → Bool
too_long line = nat_lt 80 (length line)

abbrev pub line_world : World → List ℕ → Bool → World
line_world w line true = with_error (entry LineTooLong 1) w
line_world w line false = run_commands w (commands_of line)

abbrev pub line_outcomes : World → List ℕ → Bool → List Outcome
line_outcomes w line true = []
line_outcomes w line false = outcomes w (commands_of line)

-- the replies are written from the buffer's first byte, and the bytes behind them are kept
abbrev pub line_run : World → List ℕ → ℕ → List ℕ → Answer × (World × List ℕ)
line_run w line taken buffer =
    let replies = all_replies (line_outcomes w line (too_long line)) in
    (accepting (taken ∷ (write buffer 0 replies).0 ∷ []), (line_world w line (too_long line), (write buffer 0 replies).1))

-- a line that was found, or none
abbrev pub found : Option (List ℕ × ℕ) → Result (List ℕ × ℕ) Refusal
found None = Err LineOpen
found (Some l) = Ok l

-- the line that a call takes, with the bytes taken: 9003, then 9005 by the size of the reply buffer, then 9006
abbrev pub line_taken : World → List ℕ → ℕ → Result (List ℕ × ℕ) Refusal
line_taken w bytes room = cond (matches w.core.desk.axes w.core.drive) (cond (nat_lt room 4096) (Err ReplyTooSmall) (found (line_of bytes))) (Err DriveMismatch)

abbrev pub line_answered : World → Result (List ℕ × ℕ) Refusal → List ℕ → Answer × (World × List ℕ)
line_answered w (Err r) buffer = (refusing r, (w, buffer))
line_answered w (Ok l) buffer = line_run w l.0 l.1 buffer

abbrev pub line_call : World → List ℕ → List ℕ → Answer × (World × List ℕ)
line_call w bytes buffer = line_answered w (line_taken w bytes (length buffer)) buffer

-- ---- ticks, and the error view

-- 9003, then 9007
abbrev pub ticks_call : World → ℕ → Answer × World
ticks_call w n =
    cond (matches w.core.desk.axes w.core.drive)
    (cond (nat_le 1 n && nat_le n 60000) (accepting [], record { core = (beats n w.core).core; errors = w.errors }) (refusing TickCount, w))
    (refusing DriveMismatch, w)

-- the n-th oldest error is shown and kept: its code and its column
abbrev pub error_told : Option ErrorEntry → Answer
error_told None = refusing NoSuchError
error_told (Some e) = accepting (code_of e.fault ∷ e.column ∷ [])

abbrev pub error_call : World → ℕ → Answer
error_call w n = error_told (nth_error n w.errors)
