-- Bytes written as hex digits, two to a byte. Assumes nothing.
use Rattle.std.specs.Prelude.{◌≡◌, ℕ, ◌+◌, ◌*◌, ◌/◌, ◌%◌, ◌<◌, List, length, Some, None, slice_index, alloc_error}
use Rattle.hex.specs.Hex.{hex_digit_value}
use Rattle.hex.specs.declared.error.FromHexError.{FromHexError}
use Rattle.hex.specs.declared.error.FromHexError.TheVariants.{InvalidHexCharacter, OddLength, InvalidStringLength, OutOfMemory}
use Rattle.trials.specs.declared.fault.Fault.{Fault}
use Rattle.trials.specs.declared.fault.Fault.TheVariants.{OddDigits, NoDigit, Memory}

-- the text has two digits for each byte, the higher one first
pub record Spells (text bytes : List ℕ) : Type 0 where
  pub twice : length text ≡ 2 * length bytes
  pub high : (k : ℕ) → k < length bytes → hex_digit_value (slice_index text (2 * k)) ≡ Some (slice_index bytes k / 16)
  pub low : (k : ℕ) → k < length bytes → hex_digit_value (slice_index text (2 * k + 1)) ≡ Some (slice_index bytes k % 16)

-- what is wrong with a text
abbrev pub Wrong : List ℕ → Fault → Type 0
Wrong text OddDigits = length text % 2 ≡ 1
Wrong text (NoDigit at) = (at < length text) × (hex_digit_value (slice_index text at) ≡ None)
Wrong text (Memory e) = Unit {0}
Wrong text _ = ⊥

-- how a script says what the decoder found wrong
abbrev pub fault_of : FromHexError → Fault
fault_of (InvalidHexCharacter c at) = NoDigit at
fault_of OddLength = OddDigits
fault_of InvalidStringLength = OddDigits
fault_of OutOfMemory = Memory alloc_error
