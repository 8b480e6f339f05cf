use Rattle.std.proofs.Common.{length, ap, sym, ◌∙◌, arith}
use Rattle.std.proofs.lemmas.Slice.Zip.{zip_end}
use Rattle.drive.specs.Calls.{replay}
use Rattle.motion.proofs.Loops.{starts_all}
use Rattle.motion.proofs.telling.start_all.Goals as goal

pub returns : goal.returns
returns g c =
    let ns = c.args.members.now in
    let zs = c.args.positions.now in
    let axes = g.D.Drive.axes c.loop-axis.drive in
    let e = zip_end ns zs c.loop-axis.yielded c.into_iter-axis-iterator.result c.loop-axis.axis-iterator c.next.new.self _ (cc) (cc) c.loop-axis.yielded_by c.in-None.is c.next.ensures.steps in
    sym (ap (λ ts. replay ts axes) (starts_all c.args.profile ns zs (length c.loop-axis.yielded) (omega (arith, e)))) ∙ c.loop-axis.invariant
