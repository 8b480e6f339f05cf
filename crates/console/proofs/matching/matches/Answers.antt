use Rattle.std.proofs.Common.{◌≡◌, false, length, nat_eq, sym, ◌∙◌, rules, tests, arith}
use Rattle.std.proofs.lemmas.Bool.Decides.{nat_tests}
use Rattle.std.proofs.lemmas.Iterator.Search.{all_from_yields_List}
use Rattle.desk.specs.Desks.{model_of}
use Rattle.motion.proofs.Loops.{range_yields}
use Rattle.console.proofs.Pairs.{reached, matches_length, matches_each}
use Rattle.console.proofs.matching.matches.Goals as goal

pub returns-then-count-axis_count : goal.returns-then-count-axis_count
returns-then-count-axis_count g c =
    let ss = (model_of c.args.desk.now).axes in
    let axes = g.D.Drive.axes c.args.drive.now in
    let n = c.axis_count-count.result in
    let size = c.axis_count-count.ensures.value in
    let same : length ss ≡ length axes = sym size ∙ (c.if-count-axis_count.true ∙ c.axis_count.ensures) in
    all_from_yields_List (reached ss axes) _ _ _ c.all.ensures.ran (range_yields c.new.result n c.new.ensures.start c.new.ensures.end c.new.ensures.exhausted) (λ x b q k. search (rules, tests))
    ∙ matches_each ss axes n 0 same (omega (arith, size))

pub returns-else-count-axis_count : goal.returns-else-count-axis_count
returns-else-count-axis_count g c =
    let apart = c.if-count-axis_count.false in
    let no : nat_eq c.axis_count-count.result c.axis_count.result ≡ false = grind (arith, nat_tests) in
    no ∙ sym (matches_length (model_of c.args.desk.now).axes (g.D.Drive.axes c.args.drive.now) (λ e. apart (c.axis_count-count.ensures.value ∙ (e ∙ sym c.axis_count.ensures))))
