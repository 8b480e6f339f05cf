-- What a writer has written.
use Rattle.std.proofs.Common.{◌≡◌, ℕ, ◌+◌, ◌<◌, ◌≤◌, List, [], ◌∷◌, ◌++◌, length, set, refl, ap}
use Rattle.number.specs.Writer.{wrote}
use Rattle.number.specs.declared.writer.Writer.{Writer}
use Rattle.number.proofs.Written.{write_one, write_full, write_nothing, write_after}

-- a writer at an offset of a buffer
abbrev pub moved : Writer → ℕ × List ℕ → Writer
moved w p = record w { at = p.0; out = record w.out { now = p.1 } }

pub wrote_byte : (w : Writer) (b : ℕ) → w.at < length w.out.now → moved w (w.at + 1, set w.out.now w.at b) ≡ wrote w (b ∷ [])
unfolding wrote
wrote_byte w b h = ap (moved w) (write_one w.out.now w.at b h)

pub wrote_full : (w : Writer) (text : List ℕ) → length w.out.now ≤ w.at → wrote w text ≡ w
unfolding wrote
wrote_full w text h = ap (moved w) (write_full w.out.now w.at text h)

pub wrote_nothing : (w : Writer) → wrote w [] ≡ w
unfolding wrote
wrote_nothing w = ap (moved w) (write_nothing w.out.now w.at)

-- one text behind another is one text of both
pub wrote_after : (w : Writer) (xs ys : List ℕ) → wrote (wrote w xs) ys ≡ wrote w (xs ++ ys)
unfolding wrote
wrote_after w xs ys = ap (moved w) (write_after w.out.now w.at xs ys refl refl)
