-- The word of each refusal of a drive. Assumes nothing.
use Rattle.std.specs.Prelude.{ℕ, List, codes}
use Rattle.drive.specs.declared.refusal.DriveRefusal.{DriveRefusal}
use Rattle.drive.specs.declared.refusal.DriveRefusal.TheVariants.{NoSuchAxis, PowerOff, Moving, OutOfReach}

abbrev pub word_of : DriveRefusal → List ℕ
word_of NoSuchAxis = codes "NONE"
word_of PowerOff = codes "OFF"
word_of Moving = codes "BUSY"
word_of OutOfReach = codes "FAR"
