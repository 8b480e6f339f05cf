use Rattle.std.proofs.Common.{◌≡◌, ◌/◌, min, map, length, replicate, ap, ◌∙◌, arith}
use Rattle.std.proofs.lemmas.List.{length-replicate}
use Rattle.groups.specs.Groups.{group_model}
use Rattle.desk.proofs.Joining.{map_replicate}
use Rattle.desk.proofs.opening.free_groups.Goals as goal

pub returns : goal.returns
returns c =
    let n : min (c.args.axis_count / 2) 6 ≡ c.args.axis_count / 2 = omega arith in
    let all = c.repeated.ensures ∙ ap (λ k. replicate k c.free.result) n in
    record {
      free = ap (λ gs. map group_model gs) all ∙ map_replicate group_model (c.args.axis_count / 2) c.free.result ∙ ap (λ g. replicate (c.args.axis_count / 2) g) c.free.ensures;
      size = ap length all ∙ length-replicate (c.args.axis_count / 2) c.free.result;
    }
