use Rattle.std.proofs.Common.{◌≡◌, drop}
use Rattle.number.specs.Writer.{wrote}
use Rattle.number.proofs.writer.Writer.text.Given as goal

abbrev pub invariant-loop-byte : goal.invariant-loop-byte
invariant-loop-byte l = wrote l.self (drop l.byte-index l.text) ≡ wrote l.fn.self l.text
