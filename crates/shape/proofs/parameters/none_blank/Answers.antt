use Rattle.std.proofs.Common.{◌≡◌, not, ◌&&◌, List, [], ◌∷◌, refl, ap, ◌∙◌, rules}
use Rattle.std.specs.List.{list_all}
use Rattle.std.proofs.lemmas.Iterator.Consumers.{YieldsList-from_first}
use Rattle.std.proofs.lemmas.Iterator.Search.{all_from_yields_List}
use Rattle.command.specs.Commands.{Field}
use Rattle.command.specs.Views.{seen, said, to_give}
use Rattle.rules.specs.Refusals.{blank_field, none_blank}
use Rattle.shape.proofs.parameters.none_blank.Goals as goal

all_filled : (fs : List Field) → list_all (λ f. not (blank_field f)) fs ≡ none_blank fs
all_filled [] = refl
all_filled (f ∷ fs) = ap (λ b. not (blank_field f) && b) (all_filled fs)

pub returns : goal.returns
returns c =
    let fs = (said c.args.command.now).parameters in
    all_from_yields_List (λ f. not (blank_field f)) _ _ _ c.all.ensures.ran (YieldsList-from_first seen to_give fs c.parameters.ensures.all) (λ x b q k. search rules) ∙ all_filled fs
