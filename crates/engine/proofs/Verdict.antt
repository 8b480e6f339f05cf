-- What a verdict says of the refusal.
use Rattle.std.proofs.Common.{◌≡◌, Some, None, Ok, Err, Option, refl, arith}
use Rattle.queue.specs.declared.error_entry.ErrorEntry.{ErrorEntry}
use Rattle.shape.specs.Verdicts.{verdict}

pub verdict_none : (o : Option ErrorEntry) → verdict o ≡ Ok tt → o ≡ None
verdict_none None h = refl
verdict_none (Some e) h = absurd (grind arith)

pub verdict_some : (o : Option ErrorEntry) (e : ErrorEntry) → verdict o ≡ Err e → o ≡ Some e
verdict_some None e h = absurd (grind arith)
verdict_some (Some f) e h = cc
