-- Runs: calls one after another. Assumes nothing.
use Rattle.std.specs.Prelude.{ℕ, List, [], ◌∷◌, Ok, Err, Result}
use Rattle.command.specs.Commands.{Command}
use Rattle.queue.specs.declared.refusal.Refusal.{Refusal}
use Rattle.rules.specs.World.{Core, World}
use Rattle.rules.specs.Deeds.{beats}
use Rattle.rules.specs.Steps.{Outcome, run_commands}
use Rattle.rules.specs.Calls.{too_long, line_world, line_outcomes, line_taken, ticks_call}

-- a call after the opening: a line with the size of its reply buffer, a number of ticks, or the number of an error
pub data Call : Type 0 where
  line_sent : List ℕ → ℕ → Call
  ticks_made : ℕ → Call
  error_asked : ℕ → Call

-- the world after a line, and what came of each of its commands; nothing where the call is refused
abbrev pub after_line : World → Result (List ℕ × ℕ) Refusal → World
after_line w (Err r) = w
after_line w (Ok l) = line_world w l.0 (too_long l.0)

abbrev pub outcomes_of_line : World → Result (List ℕ × ℕ) Refusal → List Outcome
outcomes_of_line w (Err r) = []
outcomes_of_line w (Ok l) = line_outcomes w l.0 (too_long l.0)

-- the world after a call
abbrev pub called : World → Call → World
called w (line_sent bytes room) = after_line w (line_taken w bytes room)
called w (ticks_made n) = (ticks_call w n).1
called w (error_asked n) = w

-- what came of each command of a call
abbrev pub call_outcomes : World → Call → List Outcome
call_outcomes w (line_sent bytes room) = outcomes_of_line w (line_taken w bytes room)
call_outcomes w (ticks_made n) = []
call_outcomes w (error_asked n) = []

-- the world after calls
abbrev pub run : World → List Call → World
run w [] = w
run w (x ∷ xs) = run (called w x) xs

-- what came of each command of each call
abbrev pub report : World → List Call → List (List Outcome)
report w [] = []
report w (x ∷ xs) = call_outcomes w x ∷ report (called w x) xs

-- A moment: the calls xs have been made, then commands cs of the next line have been run, then k beats have gone by. With no
-- calls, no commands and no beats it is the end of the opening.
abbrev pub moment : World → List Call → List Command → ℕ → Core
moment w xs cs k = (beats k (run_commands (run w xs) cs).core).core
