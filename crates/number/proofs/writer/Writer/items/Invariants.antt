use Rattle.std.proofs.Common.{◌≡◌, map, take}
use Rattle.number.specs.Writer.{wrote}
use Rattle.number.specs.Texts.{list_text}
use Rattle.number.proofs.Listed.{some}
use Rattle.number.proofs.writer.Writer.items.Given as goal

abbrev pub invariant-loop-one : goal.invariant-loop-one
invariant-loop-one g l =
    (l.self ≡ wrote l.fn.self (list_text (map g.T.Item.text (take l.one-index l.items)))) × (l.behind ≡ some (take l.one-index l.items))
