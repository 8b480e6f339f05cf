-- How long replies are at most, and that none is cut off. Assumes nothing.
use Rattle.std.specs.Prelude.{◌≡◌, ℕ, cond, List, length, take, is_some}
use Rattle.command.specs.Commands.{Command}
use Rattle.rules.specs.Refusals.{has_prefix}

-- the most bytes that a command replies; with a prefix HP may name a group of 12 axes, without one of 3 at most
abbrev pub most_reply : Command → ℕ
most_reply c = cond (is_some c.mnemonic) (cond (has_prefix c) 158 52) 0

-- n bytes were written to the front of the buffer, and they are all of the bytes: none is cut off
pub record Whole (bytes : List ℕ) (n : ℕ) (buffer : List ℕ) : Type 0 where
  pub count : n ≡ length bytes
  pub stands : take n buffer ≡ bytes
