use Rattle.std.proofs.Common.{arith}
use Rattle.std.proofs.lemmas.Int.{to_z-of_z}
use Rattle.drive.specs.Mirrors.{set_position_through}
use Rattle.drive.proofs.reversed_drive.ReversedDrive.set_position.Goals as goal

pub returns : goal.returns
returns g c = grind (arith, set_position_through, to_z-of_z)
