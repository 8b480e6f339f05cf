use Rattle.std.proofs.Common.{ℕ, ◌<◌}
use Rattle.desk.specs.Tables.{row_or}
use Rattle.desk.specs.Axes.{no_axis}
use Rattle.desk.specs.Desks.{model_of}
use Rattle.actions.specs.Fits.{Wide}
use Rattle.actions.proofs.fitting.settings_fit.Given as goal

-- those before this one fit
abbrev pub invariant-loop-axis : goal.invariant-loop-axis
invariant-loop-axis l = (n : ℕ) → n < l.axis → Wide (row_or no_axis n (model_of l.desk).axes)
