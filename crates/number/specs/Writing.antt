-- Bytes written into a buffer.
use Rattle.std.specs.Prelude.{ℕ, ◌+◌, ◌-◌, List, ◌++◌, length, take, drop}

-- those of the bytes for which the buffer has room behind the offset
abbrev pub fitting : List ℕ → ℕ → List ℕ → List ℕ
fitting was at bytes = take (length was - at) bytes

-- bytes written at an offset: the offset behind them, and the buffer, all its other bytes as they were
unfoldable pub write : List ℕ → ℕ → List ℕ → ℕ × List ℕ
write was at bytes = (at + length (fitting was at bytes), take at was ++ (fitting was at bytes ++ drop (at + length (fitting was at bytes)) was))
