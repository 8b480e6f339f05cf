use Rattle.std.proofs.Common.{◌≡◌, ◌≤◌}
use Rattle.command.specs.Held.{left_of}
use Rattle.command.specs.Views.{to_come, end_of}
use Rattle.command.proofs.commands.Commands.next_command.Given as goal

abbrev pub invariant-loop-part : goal.invariant-loop-part
invariant-loop-part l = (to_come l.initial.self ≡ to_come l.self) × (end_of l.self ≤ end_of l.initial.self) × (left_of l.self.rest ≤ left_of l.initial.self.rest)

abbrev pub decreases-loop-part : goal.decreases-loop-part
decreases-loop-part l = left_of l.self.rest
