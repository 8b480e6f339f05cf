-- What holds of every run behind an opening. Assumes nothing.
use Rattle.std.specs.Prelude.{◌≡◌, ℕ, List, Ok, Err, Result}
use Rattle.queue.specs.declared.refusal.Refusal.{Refusal}
use Rattle.setup.specs.declared.record.SetupRecord.{SetupRecord}
use Rattle.setup.specs.Setups.{decoded}
use Rattle.rules.specs.World.{World}
use Rattle.rules.specs.Runs.{Call}
use Rattle.laws.specs.Laws.{Lawful, Words}
use Rattle.laws.specs.Strike.{Marks, Struck, LinesSent, LinesStruck}

-- of a world that was opened with the records rs: whatever calls follow,
pub record RunsLawfully (rs : List SetupRecord) (w : World) : Type 0 where
  -- the drive does what it is told and nothing else, limits and maxima are kept, desk and drive agree with the ledger
  pub lawful : Lawful rs w
  -- and striking refused commands and lines too long changes no other command's reply or fault
  pub striking : (m : Marks) (xs : List Call) → Struck w m xs
  -- where a call that follows is one of the calls below, a struck line is what striking says, and the words of the laws mean what they say
  pub calls : LinesSent
  pub lines : LinesStruck
  pub words : Words

-- the same where an opening with these bytes was accepted
abbrev pub OpenedLawfully : List ℕ → Result Unit Refusal → World → Type 0
OpenedLawfully bytes (Ok u) w = (rs : List SetupRecord) → decoded bytes ≡ Ok rs → RunsLawfully rs w
OpenedLawfully bytes (Err r) w = Unit {0}
