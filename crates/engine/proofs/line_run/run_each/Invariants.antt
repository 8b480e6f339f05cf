use Rattle.std.proofs.Common.{◌≡◌, ◌+◌, ◌*◌, ◌≤◌, length}
use Rattle.std.specs.List.{sum_by}
use Rattle.number.specs.Writer.{wrote}
use Rattle.command.specs.Commands.{commands_of}
use Rattle.command.specs.Laws.{taken}
use Rattle.command.specs.Views.{to_come}
use Rattle.desk.specs.Desks.{model_of}
use Rattle.rules.specs.World.{world_of}
use Rattle.rules.specs.Steps.{run_commands, outcomes, all_replies}
use Rattle.answers.specs.Facts.{FewMembers}
use Rattle.engine.proofs.line_run.run_each.Given as goal

-- the commands still to come lead to the same end, and their replies complete the same text; where no group had more members than
-- there are axes, none has, and those that came replied at most 40 bytes for each byte that they take of the line
abbrev pub invariant-loop-command : goal.invariant-loop-command
invariant-loop-command g l =
    (run_commands (world_of l.state (g.D.Drive.axes l.drive)) (to_come l.command-iterator) ≡ run_commands (world_of l.initial.state (g.D.Drive.axes l.initial.drive)) (commands_of l.line))
    × (wrote l.out (all_replies (outcomes (world_of l.state (g.D.Drive.axes l.drive)) (to_come l.command-iterator)))
    ≡ wrote l.initial.out (all_replies (outcomes (world_of l.initial.state (g.D.Drive.axes l.initial.drive)) (commands_of l.line))))
    × (FewMembers (model_of l.initial.state.desk) → FewMembers (model_of l.state.desk)
    × (length (all_replies (outcomes (world_of l.initial.state (g.D.Drive.axes l.initial.drive)) (commands_of l.line))) + 40 * sum_by taken (to_come l.command-iterator)
    ≤ length (all_replies (outcomes (world_of l.state (g.D.Drive.axes l.drive)) (to_come l.command-iterator))) + 40 * sum_by taken (commands_of l.line)))
