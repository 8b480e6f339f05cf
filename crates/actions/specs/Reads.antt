-- What is read from a field. Assumes nothing.
use Rattle.std.specs.Prelude.{◌≡◌}
use Rattle.std.specs.Borrow.{Bor}
use Rattle.command.specs.Commands.{Field}
use Rattle.command.specs.Views.{seen}
use Rattle.command.specs.declared.text.Field as lent

-- calls at a field that answer what f says of what the field means
abbrev pub Reads : {T : Type 0} → (Bor lent.Field → T → Type 0) → (Field → T) → Type 0
Reads {T} may f = (p : Bor lent.Field) (r : T) → may p r → r ≡ f (seen p.now)
