use Rattle.std.proofs.Common.{get_or, take, map, sym, ap, ◌∙◌, arith}
use Rattle.std.proofs.lemmas.List.{take_more}
use Rattle.number.specs.Texts.{list_text}
use Rattle.number.specs.Writer.{wrote}
use Rattle.number.proofs.Listed.{some, item_more, some_now}
use Rattle.number.proofs.writer.Writer.list_of.Goals as goal

pub loop-number-preserved : goal.loop-number-preserved
loop-number-preserved g c =
    let ns = c.args.numbers.now in
    let i = c.loop-number.number-index in
    let n = get_or ns i 0 in
    let on = take_more ns i 0 c.loop-number-test.true in (
      (λ text acts.
          item_more text c.args.self.now (take i ns) n (c.loop-number.invariant.0 text acts) c.loop-number.invariant.1 c.when.ensures
          (c.put.ensures ∙ ap (wrote c.when.new.self) (acts n c.item.result (omega (arith, c.type_inv.numbers i)) c.item.ensures))
          ∙ ap (λ l. wrote c.args.self.now (list_text (map text l))) (sym on)),
      some_now (take i ns) n ∙ ap some (sym on),
    )
