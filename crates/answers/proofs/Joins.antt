-- Replies that are written, or nothing, and how long they are.
use Rattle.std.proofs.Common.{◌≡◌, ℕ, ◌+◌, Bool, true, false, List, [], ◌++◌, length, sym, ap}
use Rattle.std.proofs.lemmas.List.{append-nil, append_assoc, length-append}
use Rattle.std.proofs.lemmas.Bool.Decides.{nat_tests}
use Rattle.number.specs.Texts.{line_end}
use Rattle.rules.specs.Steps.{text_if}

-- a reply that is wanted, and one that is not
pub wanted : (b : Bool) (text : List ℕ) → true ≡ b → text_if b text ≡ text ++ line_end
wanted b text e = ap (λ t. text_if t text) (sym e)

pub unwanted : (b : Bool) (text : List ℕ) → false ≡ b → text_if b text ≡ []
unwanted b text e = ap (λ t. text_if t text) (sym e)

-- texts one behind the other, and how long they are
pub ruleset joined = (append-nil, append_assoc, length-append, nat_tests)
