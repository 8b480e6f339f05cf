use Rattle.std.proofs.Common.{◌∙◌, rules, tests, arith}
use Rattle.std.proofs.lemmas.Iterator.Search.{all_from_yields_List}
use Rattle.desk.specs.Desks.{model_of}
use Rattle.motion.proofs.Loops.{range_yields}
use Rattle.console.proofs.Pairs.{within_limits, placed_each}
use Rattle.console.proofs.matching.all_placed.Goals as goal

pub returns : goal.returns
returns g c =
    let ss = (model_of c.args.desk.now).axes in
    let axes = g.D.Drive.axes c.args.drive.now in
    let n = c.min-pairs.result in
    all_from_yields_List (within_limits ss axes) _ _ _ c.all.ensures.ran (range_yields c.new.result n c.new.ensures.start c.new.ensures.end c.new.ensures.exhausted) (λ x b q k. search (rules, tests))
    ∙ placed_each ss axes n 0 (omega (arith, c.min-pairs.ensures, c.axis_count.ensures.value, c.axis_count-2.ensures))
