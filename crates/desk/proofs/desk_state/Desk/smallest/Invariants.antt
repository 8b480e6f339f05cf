use Rattle.std.proofs.Common.{◌≡◌, map, drop}
use Rattle.groups.specs.Profiles.{least}
use Rattle.desk.specs.Axes.{own_of, smallest_own}
use Rattle.desk.specs.Desks.{model_of}
use Rattle.desk.proofs.desk_state.Desk.smallest.Given as goal

abbrev pub invariant-loop-member : goal.invariant-loop-member
invariant-loop-member l =
    least l.p (map (own_of (model_of l.self).axes) (drop l.member-index l.rest)) ≡ smallest_own (model_of l.self).axes l.members
