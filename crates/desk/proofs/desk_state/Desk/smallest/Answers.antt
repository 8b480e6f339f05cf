use Rattle.std.proofs.Common.{◌+◌, map, drop, sym, ap, ◌∙◌}
use Rattle.groups.specs.Profiles.{lesser, least}
use Rattle.desk.specs.Axes.{own_of, smallest_own}
use Rattle.desk.specs.Desks.{model_of}
use Rattle.desk.proofs.Joining.{least_more, least_all}
use Rattle.desk.proofs.desk_state.Desk.smallest.Goals as goal

pub loop-member-init : goal.loop-member-init
loop-member-init c =
    let axes = (model_of c.args.self.now).axes in
    ap (λ p. least p (map (own_of axes) c.in-Some.rest.now)) c.own_of-p.ensures ∙ sym (ap (smallest_own axes) c.in-Some.ensures.cases.0)

pub loop-member-preserved : goal.loop-member-preserved
loop-member-preserved c =
    let axes = (model_of c.args.self.now).axes in
    let ms = c.in-Some.rest.now in
    ap (λ p. least p (map (own_of axes) (drop (c.loop-member.member-index + 1) ms))) (c.lesser-p.ensures ∙ ap (λ q. lesser c.loop-member.p q) c.own_of.ensures)
    ∙ sym (least_more axes ms c.loop-member.member-index c.loop-member.p c.loop-member-test.true) ∙ c.loop-member.invariant

pub returns : goal.returns
returns c =
    sym (least_all (model_of c.args.self.now).axes c.in-Some.rest.now c.loop-member.member-index c.loop-member.p c.loop-member-test.false) ∙ c.loop-member.invariant
