use Rattle.std.proofs.Common.{◌≡◌, ◌≤◌, ◌++◌, map, length}
use Rattle.fixed.specs.Lists.{held}
use Rattle.command.specs.Commands as Commands
use Rattle.command.specs.Views.{said, to_give}
use Rattle.actions.specs.Reads.{Reads}
use Rattle.actions.proofs.collecting.collect.Given as goal

-- what is held, and what is left to read, are what all parameters say
abbrev pub invariant-loop-field : goal.invariant-loop-field
invariant-loop-field g l =
    (goal.iterator-loop-field g).can_next l.field-iterator
    × (goal.iterator-loop-field g).is_finite l.field-iterator
    × (length (held l.list) ≤ 12)
    × ((f : Commands.Field → _) → Reads (goal.F-post g l.read) f → held l.list ++ map f (to_give l.field-iterator) ≡ map f (said l.command).parameters)
