-- The later rules of a command that does not ask, in their order. Assumes nothing.
use Rattle.std.specs.Prelude.{List, [], ◌∷◌, ◌++◌}
use Rattle.command.specs.declared.mnemonic.Mnemonic.{Mnemonic}
use Rattle.command.specs.declared.mnemonic.Mnemonic.TheVariants.{Ab, Wt, Tb, Te}
use Rattle.command.specs.Commands.{Command}
use Rattle.rules.specs.World.{Core}
use Rattle.rules.specs.Refusals.{Test, group_axes, moving_axis, velocity_out, axis_parameter_out, acceleration_out, group_figure_out, group_figure_over, power_missing, limits_out, waypoints_full}

-- of a start: power, limits, waypoints
abbrev pub of_start : Core → Mnemonic → Command → List Test
of_start k m c = power_missing k m c ++ (limits_out k m c ++ waypoints_full k m c)

-- of a figure that is set, and those behind
abbrev pub from_figures : Core → Mnemonic → Command → List Test
from_figures k m c = velocity_out k m c ++ (axis_parameter_out k m c ++ (acceleration_out k m c ++ (group_figure_out m c ++ (group_figure_over k m c ++ of_start k m c))))

-- of the axes that form a group, of axes that move, and those behind
abbrev pub from_axes : Core → Mnemonic → Command → List Test
from_axes k m c = group_axes k m c ++ (moving_axis k m c ++ from_figures k m c)

-- commands whose prefix is ignored
abbrev pub without_prefix : List Mnemonic
without_prefix = Ab ∷ Wt ∷ Tb ∷ Te ∷ []
