-- One command after another. Assumes nothing.
use Rattle.std.specs.Prelude.{ℕ, Bool, true, false, not, ◌&&◌, ◌||◌, List, [], ◌∷◌, ◌++◌, drop, Some, None, Option}
use Rattle.drive.specs.Calls.{Told}
use Rattle.command.specs.declared.mnemonic.Mnemonic.{Mnemonic}
use Rattle.command.specs.declared.mnemonic.Mnemonic.TheVariants.{Tb, Te}
use Rattle.command.specs.Commands.{Command}
use Rattle.queue.specs.declared.error_entry.ErrorEntry.{ErrorEntry}
use Rattle.queue.specs.Queue.{pushed}
use Rattle.rules.specs.World.{World}
use Rattle.rules.specs.Kinds.{is, among, error_commands}
use Rattle.rules.specs.Refusals.{asking, refused_by}
use Rattle.rules.specs.Deeds.{perform}
use Rattle.rules.specs.Replies.{reply_of, answer_text, telling, code_text, message_text}

-- what came of a command: it was refused, or carried out with a reply, which may be nothing
pub data Outcome : Type 0 where
  refused : ErrorEntry → Outcome
  replied : List ℕ → Outcome

-- a command carried out: the world after it, what came of it, and what the drive was told
pub record Step : Type 0 where
  pub world : World
  pub outcome : Outcome
  pub told : List Told

-- a refused command changes nothing but the error queue: ten wait at most, and an eleventh pushes out the oldest
abbrev pub with_error : ErrorEntry → World → World
with_error e w = record { core = w.core; errors = pushed 10 w.errors e }

-- a text that is answered, or nothing
abbrev pub text_if : Bool → List ℕ → List ℕ
text_if true text = reply_of text
text_if false text = []

-- the reply of the command m: TB and TE tell the oldest error, others what they ask
abbrev pub replies : World → Mnemonic → Command → List ℕ
replies w m c =
    text_if (is m Te) (code_text w.errors) ++ (text_if (is m Tb) (message_text w.errors) ++ text_if ((asking m c || among telling m) && not (among error_commands m)) (answer_text w.core m c))

-- the errors after the command m: TB and TE take out the oldest
abbrev pub errors_after : Bool → List ErrorEntry → List ErrorEntry
errors_after true es = drop 1 es
errors_after false es = es

abbrev pub accepted : World → Option Mnemonic → Command → Step
accepted w None c = record { world = w; outcome = replied []; told = [] }
accepted w (Some m) c =
    let t = perform w.core c in
    record { world = record { core = t.core; errors = errors_after (among error_commands m) w.errors }; outcome = replied (replies w m c); told = t.told }

abbrev pub settled : World → Command → Option ErrorEntry → Step
settled w c (Some e) = record { world = with_error e w; outcome = refused e; told = [] }
settled w c None = accepted w c.mnemonic c

-- THE step of a command: judged on the core alone
abbrev pub step : World → Command → Step
step w c = settled w c (refused_by w.core c)

-- commands in turn: the world after them
abbrev pub run_commands : World → List Command → World
run_commands w [] = w
run_commands w (c ∷ cs) = run_commands (step w c).world cs

-- what came of each
abbrev pub outcomes : World → List Command → List Outcome
outcomes w [] = []
outcomes w (c ∷ cs) = (step w c).outcome ∷ outcomes (step w c).world cs

abbrev pub reply_bytes : Outcome → List ℕ
reply_bytes (refused e) = []
reply_bytes (replied bytes) = bytes

-- all replies, one behind the other
abbrev pub all_replies : List Outcome → List ℕ
all_replies [] = []
all_replies (o ∷ os) = reply_bytes o ++ all_replies os
