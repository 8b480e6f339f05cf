-- What a bank of axes means. Assumes nothing.
use Rattle.std.specs.Prelude.{List, map, take}
use Rattle.drive.specs.Model.{Axis}
use Rattle.stage.specs.Kinds.{kind_axis}
use Rattle.bank.specs.declared.bank.Bank.{Bank}

abbrev pub bank_axes : Bank → List Axis
bank_axes b = map kind_axis (take b.count b.axes)
