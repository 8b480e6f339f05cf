use Rattle.std.proofs.Common.{◌+◌, arith}
use Rattle.desk.specs.Desks.{model_of}
use Rattle.actions.proofs.Widths.{one_more_wide, first_wide, all_wide}
use Rattle.actions.proofs.fitting.settings_fit.Goals as goal

pub loop-axis-init : goal.loop-axis-init
loop-axis-init c = first_wide (model_of c.args.desk.now).axes

pub loop-axis-preserved : goal.loop-axis-preserved
loop-axis-preserved c = one_more_wide (model_of c.args.desk.now).axes c.loop-axis.axis c.loop-axis.invariant c.axis_fits.ensures

pub returns : goal.returns
returns c = all_wide (model_of c.args.desk.now).axes c.loop-axis.axis (omega arith) c.loop-axis.invariant

pub returns-2 : goal.returns-2
returns-2 c =
    let axes = (model_of c.args.desk.now).axes in
    all_wide axes (c.loop-axis.axis + 1) (omega arith) (one_more_wide axes c.loop-axis.axis c.loop-axis.invariant c.axis_fits.ensures)
