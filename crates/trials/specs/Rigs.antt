-- What a drive means that is mounted reversed at two axes. Assumes nothing.
use Rattle.std.specs.Prelude.{List}
use Rattle.drive.specs.Mirror.{mirrored}
use Rattle.drive.specs.Model.{Axis}
use Rattle.drive.specs.declared.reversed.Reversed.{Reversed}
use Rattle.bank.specs.Banks.{bank_axes}
use Rattle.bank.specs.declared.bank.Bank.{Bank}

abbrev pub rig_axes : Reversed (Reversed Bank) → List Axis
rig_axes r = mirrored r.axis (mirrored r.below.axis (bank_axes r.below.below))
