-- Facts that the writing of answers leans on. Assumes nothing.
use Rattle.std.specs.Prelude.{◌≡◌, ℕ, ◌≤◌, List, length}
use Rattle.number.specs.Writer.{wrote}
use Rattle.number.specs.declared.writer.Writer.{Writer}
use Rattle.desk.specs.Desks.{DeskModel, group_at}
use Rattle.rules.specs.World.{Core, axis_at}
use Rattle.rules.specs.Replies.{place_text, position_told}

-- no group has more members than there are axes
abbrev pub FewMembers : DeskModel → Type 0
FewMembers d = (g : ℕ) → length (group_at g d).members ≤ length d.axes

-- positions and targets have at most 12 bytes
pub record PlacesShort (k : Core) : Type 0 where
  pub position : (n : ℕ) → length (position_told k n) ≤ 12
  pub target : (n : ℕ) → length (place_text k n (axis_at k n).target) ≤ 12

-- a text was written, and has at most so many bytes
pub record Wrote (was is : Writer) (bytes : List ℕ) (most : ℕ) : Type 0 where
  pub text : is ≡ wrote was bytes
  pub short : length bytes ≤ most
