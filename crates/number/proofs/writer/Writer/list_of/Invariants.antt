use Rattle.std.proofs.Common.{◌≡◌, ℕ, ◌<◌, List, map, take}
use Rattle.number.specs.Writer.{wrote}
use Rattle.number.specs.Texts.{list_text}
use Rattle.number.proofs.Listed.{some}
use Rattle.number.proofs.writer.Writer.list_of.Given as goal

abbrev pub invariant-loop-number : goal.invariant-loop-number
invariant-loop-number g l =
    ((text : ℕ → List ℕ) → ((n : ℕ) (x : _) → n < 256 → goal.F-post g l.item n x → g.T.Item.text x ≡ text n) → l.self ≡ wrote l.fn.self (list_text (map text (take l.number-index l.numbers))))
    × (l.behind ≡ some (take l.number-index l.numbers))
