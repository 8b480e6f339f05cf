use Rattle.std.proofs.Common.{◌≡◌, ℕ, ◌&&◌, List, [], ◌∷◌, map, ℤ, pos, int_le, refl, ap, ◌∙◌, rules}
use Rattle.std.specs.List.{list_all}
use Rattle.std.proofs.lemmas.Iterator.{YieldsList-from_slice}
use Rattle.std.proofs.lemmas.Iterator.Search.{all_from_yields_List}
use Rattle.command.specs.Views.{said}
use Rattle.rules.specs.World.{core_of, members}
use Rattle.rules.specs.Refusals as R
use Rattle.figures.proofs.ranges.no_member_below.Goals as goal

all_above : (z : ℤ) (most : ℕ → ℕ) (ns : List ℕ) → list_all (λ n. int_le z (pos (most n))) ns ≡ R.none_below z (map most ns)
all_above z most [] = refl
all_above z most (n ∷ ns) = ap (λ b. int_le z (pos (most n)) && b) (all_above z most ns)

pub returns : goal.returns
returns g c = λ most same.
    let k = core_of c.args.desk.now [] in
    let s = said c.args.command.now in
    let ns = members k (R.group_named k s) in
    let z = R.given s in
    all_from_yields_List (λ n. int_le z (pos (most n))) _ _ _ c.all.ensures.ran (YieldsList-from_slice ns (c.iter.ensures.rest ∙ (c.axes.ensures ∙ c.members_named.ensures))) (λ x b q k. search (rules, same)) ∙ all_above z most ns
