use Rattle.std.proofs.Common.{◌≡◌, true, refl, arith}
use Rattle.std.proofs.lemmas.Bool.Decides.{nat_tests}
use Rattle.fixed.specs.Lists.{held}
use Rattle.desk.specs.Desks.{model_of, in_use}
use Rattle.desk.specs.Found.{Found}
use Rattle.desk.proofs.Founds.{group_changed}
use Rattle.desk.proofs.desk_state.Desk.change_group.Goals as goal

pub returns : goal.returns
returns g c =
    let d = c.args.self.now in
    let found : Found d c.args.group c.in-Some.g = c.in-Some.ensures in
    let members = found.members in
    let used : in_use c.args.group (model_of d) ≡ true = grind (arith, nat_tests) in
    λ f h. group_changed f d c.args.group c.in-Some.g _ (held c.set.new.self) found used (h _ _ (record { shown = _; shows = refl; left = _; met = c.change.ensures; leaves = refl })) c.set.ensures
