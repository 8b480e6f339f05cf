-- The two parts of a reply, of which one is nothing. Assumes nothing.
use Rattle.std.specs.Prelude.{ℕ, Bool, not, ◌&&◌, ◌||◌, List, ◌++◌}
use Rattle.command.specs.declared.mnemonic.Mnemonic.{Mnemonic}
use Rattle.command.specs.declared.mnemonic.Mnemonic.TheVariants.{Tb, Te}
use Rattle.command.specs.Commands.{Command}
use Rattle.queue.specs.declared.error_entry.ErrorEntry.{ErrorEntry}
use Rattle.rules.specs.World.{Core}
use Rattle.rules.specs.Kinds.{is, among, error_commands}
use Rattle.rules.specs.Refusals.{asking}
use Rattle.rules.specs.Replies.{answer_text, telling, code_text, message_text}
use Rattle.rules.specs.Steps.{text_if}

-- what TE or TB replies
abbrev pub error_reply : List ErrorEntry → Mnemonic → List ℕ
error_reply es m = text_if (is m Te) (code_text es) ++ text_if (is m Tb) (message_text es)

-- any other command answers if it asks, or tells without a question mark
abbrev pub answering : Mnemonic → Command → Bool
answering m c = (asking m c || among telling m) && not (among error_commands m)

-- what it replies
abbrev pub answer_reply : Core → Mnemonic → Command → List ℕ
answer_reply k m c = text_if (answering m c) (answer_text k m c)
