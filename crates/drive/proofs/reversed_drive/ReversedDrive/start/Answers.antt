use Rattle.std.proofs.Common.{arith}
use Rattle.std.proofs.lemmas.Int.{to_z-of_z}
use Rattle.drive.specs.Mirrors.{start_through}
use Rattle.drive.proofs.reversed_drive.ReversedDrive.start.Goals as goal

pub returns : goal.returns
returns g c = grind (arith, start_through, to_z-of_z)
