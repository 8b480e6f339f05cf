use Rattle.std.proofs.Common.{◌≡◌, ◌-◌, [], ◌++◌, map, take, drop}
use Rattle.groups.specs.Groups.{with_waypoints}
use Rattle.desk.specs.Desks.{model_of}
use Rattle.actions.proofs.grouping.empty_all.Given as goal

-- the groups before this one are empty, the others as they were
abbrev pub invariant-loop-number : goal.invariant-loop-number
invariant-loop-number l =
    let gs = (model_of l.initial.desk).groups in
    ((model_of l.desk).axes ≡ (model_of l.initial.desk).axes)
    × ((model_of l.desk).groups ≡ map (with_waypoints (λ ws. [])) (take (l.number - 1) gs) ++ drop (l.number - 1) gs)
