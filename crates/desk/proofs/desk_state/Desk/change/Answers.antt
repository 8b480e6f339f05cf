use Rattle.std.proofs.Common.{◌≤◌, ◌-◌, refl, sym, ap, ◌∙◌}
use Rattle.fixed.specs.Lists.{held}
use Rattle.desk.specs.Axes.{short}
use Rattle.desk.specs.Desks.{model_of}
use Rattle.desk.proofs.Changes.{axis_changed, short_set, half_kept}
use Rattle.desk.proofs.desk_state.Desk.change.Goals as goal

pub invariant_of-self : goal.invariant_of-self
invariant_of-self g c =
    let d = c.args.self.now in
    let few : c.in-Some.settings.digits ≤ 6 = c.in-Some.ensures.digits in
    record {
      half = half_kept (held d.groups) (held d.axes) (held c.set.new.self) (c.args.axis - 1) _ d.half c.set.ensures;
      digits = ap short c.set.ensures ∙ short_set (held d.axes) (c.args.axis - 1) _ d.digits (c.requires.digits _ _ few (record { shown = _; shows = refl; left = _; met = c.change.ensures; leaves = refl }));
    }

pub returns : goal.returns
returns g c =
    λ f h. axis_changed f (model_of c.args.self.now) (held c.set.new.self) c.args.axis c.in-Some.settings _ (sym c.in-Some.is ∙ c.axis.ensures.value)
    (h _ _ (record { shown = _; shows = refl; left = _; met = c.change.ensures; leaves = refl })) c.set.ensures
