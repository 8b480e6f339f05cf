use Rattle.std.proofs.Common.{◌≡◌, map}
use Rattle.number.specs.Writer.{wrote}
use Rattle.number.specs.Texts.{list_text}
use Rattle.number.proofs.Listed.{some}
use Rattle.number.proofs.writer.Writer.list.Given as goal

abbrev pub invariant-loop-item : goal.invariant-loop-item
invariant-loop-item g l = (l.self ≡ wrote l.fn.self (list_text (map g.T.Item.text l.yielded))) × (l.behind ≡ some l.yielded)
