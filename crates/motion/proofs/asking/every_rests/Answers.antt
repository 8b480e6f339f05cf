use Rattle.std.proofs.Common.{rules, tests}
use Rattle.std.proofs.lemmas.Iterator.Search.{all_from_yields_List}
use Rattle.drive.specs.Model.{at_rest}
use Rattle.desk.specs.Tables.{row_or}
use Rattle.rules.specs.World.{no_drive_axis}
use Rattle.motion.proofs.Loops.{range_yields}
use Rattle.motion.proofs.asking.every_rests.Goals as goal

pub returns : goal.returns
returns g c =
    all_from_yields_List (λ n. at_rest (row_or no_drive_axis n (g.D.Drive.axes c.args.drive.now))) _ _ _ c.all.ensures.ran (range_yields c.new.result c.args.count c.new.ensures.start c.new.ensures.end c.new.ensures.exhausted) (λ x b q k. search (rules, tests))
