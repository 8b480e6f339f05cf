use Rattle.std.proofs.Common.{arith}
use Rattle.command.specs.Held.{seen_span}
use Rattle.command.proofs.Least.{least_fits}
use Rattle.command.proofs.commands.Commands.next_command.Goals as goal

pub returns-then-not-is_empty-clause-used : goal.returns-then-not-is_empty-clause-used
returns-then-not-is_empty-clause-used c = omega (arith, c.loop-part.invariant.2, c.in-Some.ensures.used, least_fits (seen_span c.in-Some.part) c.trim-text.ensures.part c.read_command.ensures.command)
