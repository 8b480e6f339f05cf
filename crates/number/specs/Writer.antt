-- What a writer has written.
use Rattle.std.specs.Prelude.{ℕ, List}
use Rattle.number.specs.Writing.{write}
use Rattle.number.specs.declared.writer.Writer.{Writer}

-- a writer behind a text that it wrote: its buffer is the same one, with the text in it
unfoldable pub wrote : Writer → List ℕ → Writer
wrote w text = record w { at = (write w.out.now w.at text).0; out = record w.out { now = (write w.out.now w.at text).1 } }
