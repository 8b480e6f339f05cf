-- What the calls of a console answer, and what a console is over a drive. Assumes nothing.
use Rattle.std.specs.Prelude.{ℕ, List, [], ◌∷◌, Ok, Err, Result}
use Rattle.drive.specs.Model.{Axis}
use Rattle.queue.specs.declared.error_entry.ErrorEntry.{ErrorEntry}
use Rattle.queue.specs.declared.refusal.Refusal.{Refusal}
use Rattle.queue.specs.Faults.{code_of}
use Rattle.rules.specs.World.{World, world_of}
use Rattle.rules.specs.Steps.{all_replies}
use Rattle.rules.specs.Calls.{Answer, refusing, accepting, too_long, line_outcomes}
use Rattle.console.specs.declared.console.Console.{Console}
use Rattle.console.specs.declared.line_done.LineDone.{LineDone}

-- desk, drive and errors together
abbrev pub world : Console → List Axis → World
world c axes = world_of c.state axes

-- 0 and no values, or the number of the refusal
abbrev pub plain_answer : Result Unit Refusal → Answer
plain_answer (Ok u) = accepting []
plain_answer (Err r) = refusing r

-- 0 with the bytes taken and the reply bytes written, or the number of the refusal
abbrev pub line_answer : Result LineDone Refusal → Answer
line_answer (Ok d) = accepting (d.taken ∷ d.written ∷ [])
line_answer (Err r) = refusing r

-- the replies of the line that a call takes
abbrev pub replies_taken : World → Result (List ℕ × ℕ) Refusal → List ℕ
replies_taken w (Err r) = []
replies_taken w (Ok l) = all_replies (line_outcomes w l.0 (too_long l.0))

-- 0 with the code and the column of the error, or the number of the refusal
abbrev pub entry_answer : Result ErrorEntry Refusal → Answer
entry_answer (Ok e) = accepting (code_of e.fault ∷ e.column ∷ [])
entry_answer (Err r) = refusing r
