use Rattle.std.proofs.Common.{◌≡◌, ℕ, List, [], ◌∷◌, refl, ap, ◌∙◌, rules}
use Rattle.command.specs.Commands.{Field}
use Rattle.command.specs.Views.{seen as read, said, to_give}
use Rattle.asked.specs.Seen.{seen}
use Rattle.rules.specs.Refusals as R
use Rattle.std.proofs.Common.{◌++◌}
use Rattle.std.specs.List.{flat_map, zip}
use Rattle.std.proofs.lemmas.Iterator.{YieldsList-from_slice, YieldsList-from_zip}
use Rattle.std.proofs.lemmas.Iterator.Consumers.{YieldsList-at, YieldsList-from_first}
use Rattle.rules.specs.World.{Core, members}
use Rattle.shape.specs.Verdicts.{judged}
use Rattle.shape.proofs.Walks.{judged_each}
use Rattle.checks.proofs.moves.members_within.Goals as goal

-- the tests of a member and its parameter
abbrev within : Core → ℕ × Field → List R.Test
within k p = R.within_limits k p.0 (R.value p.1) p.1.column

each_pair : (k : Core) (ns : List ℕ) (fs : List Field) → flat_map (within k) (zip ns fs) ≡ R.each_within k ns fs
each_pair k [] fs = refl
each_pair k (n ∷ ns) [] = refl
each_pair k (n ∷ ns) (f ∷ fs) = ap (λ ts. R.within_limits k n (R.value f) f.column ++ ts) (each_pair k ns fs)

pub returns : goal.returns
returns g c =
    let k = seen g.D.Drive.axes c.args.case.now.view in
    let s = said c.args.case.now.command.now in
    let ns = members k (R.group_named k s) in
    let members_road = YieldsList-from_slice ns (c.iter.ensures.rest ∙ (c.axes.ensures ∙ c.members_named-members.ensures)) in
    let given_road = YieldsList-from_first read to_give s.parameters c.parameters.ensures.all in
    let road = YieldsList-from_zip (YieldsList-at c.zip-pairs.ensures.first members_road) (YieldsList-at c.zip-pairs.ensures.second given_road) in
    judged_each road _ (within k) (λ x b q r. search rules) {u = c.try_for_each.new.self} c.try_for_each.ensures.ran ∙ ap judged (each_pair k ns s.parameters)
