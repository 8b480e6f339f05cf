use Rattle.std.proofs.Common.{◌≡◌, Ok, subst, rules}
use Rattle.command.specs.Views.{said}
use Rattle.asked.specs.Seen.{seen}
use Rattle.rules.specs.Refusals.{each_axis, group_axes}
use Rattle.shape.specs.Verdicts.{judged}
use Rattle.shape.proofs.Chains.{front_passed}
use Rattle.checks.proofs.moves.moving_axis.Goals as goal

pub each_resting-requires : goal.each_resting-requires
each_resting-requires g c =
    let k = seen g.D.Drive.axes c.args.named.now.case.view in
    let s = said c.args.named.now.case.command.now in
    let axes = front_passed (each_axis k s.parameters) _ (subst (λ m. judged (group_axes k m s) ≡ Ok tt) c.in-Hn.is c.requires) in
    search rules
