-- What tests come to, as code has it. Assumes nothing.
use Rattle.std.specs.Prelude.{◌≡◌, List, Some, None, Ok, Err, Option, Result}
use Rattle.queue.specs.declared.error_entry.ErrorEntry.{ErrorEntry}
use Rattle.rules.specs.Refusals.{Test, refusal}

-- a refusal is an error, none is none
abbrev pub verdict : Option ErrorEntry → Result Unit ErrorEntry
verdict None = Ok tt
verdict (Some e) = Err e

-- the first test that fails, if one does
abbrev pub judged : List Test → Result Unit ErrorEntry
judged ts = verdict (refusal ts)

-- what a verdict says of the refusal: it is there, and which, or there is none
abbrev pub Settles : Option ErrorEntry → Result Unit ErrorEntry → Type 0
Settles o (Ok u) = o ≡ None
Settles o (Err e) = o ≡ Some e
