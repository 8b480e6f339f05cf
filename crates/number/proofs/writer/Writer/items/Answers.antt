use Rattle.std.proofs.Common.{[], ◌∷◌, ◌++◌, take, map, sym, ap, ◌∙◌}
use Rattle.std.proofs.lemmas.List.{take_more}
use Rattle.number.specs.Texts.{list_text}
use Rattle.number.specs.Writer.{wrote}
use Rattle.number.proofs.Listed.{some, item_more, some_now}
use Rattle.number.proofs.writer.Writer.items.Goals as goal

pub loop-one-preserved : goal.loop-one-preserved
loop-one-preserved g c =
    let xs = c.args.items.now in
    let i = c.loop-one.one-index in
    let x = c.one-item.result in
    let on = take_more xs i x c.loop-one-test.true ∙ ap (λ y. take i xs ++ (y ∷ [])) (sym c.one-item.is) in (
      item_more g.T.Item.text c.args.self.now (take i xs) x c.loop-one.invariant.0 c.loop-one.invariant.1 c.when.ensures c.put.ensures
          ∙ ap (λ l. wrote c.args.self.now (list_text (map g.T.Item.text l))) (sym on),
      some_now (take i xs) x ∙ ap some (sym on),
    )
