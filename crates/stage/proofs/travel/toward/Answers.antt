use Rattle.std.proofs.Common.{◌≡◌, ◌≤◌, pos, ◌+ℤ◌, ◌-ℤ◌, ◌≤ℤ◌, ◌<ℤ◌, ap, ◌∙◌, arith, w32, w64, SFits, to_z, of_z, rules}
use Rattle.std.proofs.lemmas.Int.{ints, to_z-of_z}
use Rattle.stage.specs.Travel.{way}
use Rattle.stage.specs.Steps.{narrowed, way_up, way_down, up_is, down_is, toward_fair}
use Rattle.stage.proofs.travel.toward.Goals as goal

pub returns-then-position-target : goal.returns-then-position-target
returns-then-position-target c =
    let fp = c.ranges.position in
    let ft = c.ranges.target in
    let less : c.args.position <ℤ c.args.target = grind (arith, ints, to_z-of_z) in
    let is = simp to_z-of_z at c.step-ahead.ensures.value in
    let w = way_up c.args.position c.args.target (omega (arith, ints)) in
    let cut : c.step-ahead.result ≤ way c.args.position c.args.target = omega arith in
    let high : (c.args.position +ℤ pos c.step-ahead.result) ≤ℤ c.args.target = omega (arith, ints) in
    let fits : SFits w32 (c.args.position +ℤ pos c.step-ahead.result) = search (rules, ints) in
    let sum : to_z w64 (of_z w64 (to_z w32 (of_z w32 c.args.position))) +ℤ to_z w64 c.step-ahead.result ≡ c.args.position +ℤ pos c.step-ahead.result = omega (arith, ints) in
    let value = narrowed _ _ fits sum in
    let to = value ∙ ap (λ s. c.args.position +ℤ pos s) is ∙ up_is c.args.position c.args.target c.args.asked less in
    record { value = to; fair = rw to (toward_fair c.args.position c.args.target c.args.asked) }

pub returns-else-position-target : goal.returns-else-position-target
returns-else-position-target c =
    let fp = c.ranges.position in
    let ft = c.ranges.target in
    let least : c.args.target ≤ℤ c.args.position = grind (arith, ints, to_z-of_z) in
    let is = simp to_z-of_z at c.step-ahead.ensures.value in
    let w = way_down c.args.position c.args.target least in
    let cut : c.step-ahead.result ≤ way c.args.position c.args.target = omega arith in
    let low : c.args.target ≤ℤ (c.args.position -ℤ pos c.step-ahead.result) = omega (arith, ints) in
    let fits : SFits w32 (c.args.position -ℤ pos c.step-ahead.result) = search (rules, ints) in
    let sum : to_z w64 (of_z w64 (to_z w32 (of_z w32 c.args.position))) -ℤ to_z w64 c.step-ahead.result ≡ c.args.position -ℤ pos c.step-ahead.result = omega (arith, ints) in
    let value = narrowed _ _ fits sum in
    let to = value ∙ ap (λ s. c.args.position -ℤ pos s) is ∙ down_is c.args.position c.args.target c.args.asked least in
    record { value = to; fair = rw to (toward_fair c.args.position c.args.target c.args.asked) }
