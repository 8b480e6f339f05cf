use Rattle.std.proofs.Common.{◌≡◌, map, length, ap, ◌∙◌, arith}
use Rattle.std.proofs.lemmas.List.{take_all}
use Rattle.fixed.specs.Lists.{held}
use Rattle.setup.specs.Setups.{records_in}
use Rattle.desk.specs.Axes.{opened_axis, short}
use Rattle.desk.proofs.Joining.{opened_short}
use Rattle.desk.proofs.opening.axis_table.Goals as goal

pub returns : goal.returns
returns c =
    let rs = records_in c.args.setup.now in
    let axes : held c.loop-record.axes ≡ map opened_axis rs =
    c.loop-record.invariant ∙ ap (λ z. map opened_axis z) (take_all c.loop-record.record-index rs (let e = ap length c.records-record-items.ensures.value in omega arith))
    in
    record { axes = axes; digits = ap short axes ∙ opened_short rs }
