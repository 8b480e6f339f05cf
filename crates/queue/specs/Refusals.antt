-- The number and the words of each refusal of a whole call. Assumes nothing.
use Rattle.std.specs.Prelude.{ℕ, List, codes}
use Rattle.queue.specs.declared.refusal.Refusal.{Refusal}
use Rattle.queue.specs.declared.refusal.Refusal.TheVariants.{RecordCount, RecordLayout, DriveMismatch, OutsideLimits, ReplyTooSmall, LineOpen, TickCount, NoSuchError}

abbrev pub number_of : Refusal → ℕ
number_of RecordCount = 9001
number_of RecordLayout = 9002
number_of DriveMismatch = 9003
number_of OutsideLimits = 9004
number_of ReplyTooSmall = 9005
number_of LineOpen = 9006
number_of TickCount = 9007
number_of NoSuchError = 9008

-- what the refusal means
abbrev pub words_of : Refusal → List ℕ
words_of RecordCount = codes "a setup has 2 to 12 whole records of 48 bytes"
words_of RecordLayout = codes "a setup record breaks the layout"
words_of DriveMismatch = codes "a limit of the setup passes the reach of the drive"
words_of OutsideLimits = codes "an axis stands outside its limits"
words_of ReplyTooSmall = codes "the buffer for the replies is too small"
words_of LineOpen = codes "the line has no end"
words_of TickCount = codes "the number of ticks is not 1 to 60000"
words_of NoSuchError = codes "no such error waits"
