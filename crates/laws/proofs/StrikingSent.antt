-- A line sent in a run is the line call. Assumes nothing.
use Rattle.std.proofs.Common.{◌≡◌, ℕ, zero, suc, ◌+◌, ◌-◌, List, [], ◌++◌, length, take, drop, Ok, Err, Result, sym, refl, ap}
use Rattle.number.specs.Writing.{write}
use Rattle.queue.specs.declared.refusal.Refusal.{Refusal}
use Rattle.rules.specs.World.{World}
use Rattle.rules.specs.Steps.{all_replies}
use Rattle.rules.specs.Calls.{line_taken, line_answered}
use Rattle.rules.specs.Runs.{after_line, outcomes_of_line}
use Rattle.laws.specs.Strike.{taken_number, LinesSent}

take_none : (n : ℕ) → take {A = ℕ} n [] ≡ []
take_none zero = refl
take_none (suc n) = refl

-- where nothing is written the buffer is as it was
none_written : (buffer : List ℕ) → (write buffer 0 []).1 ≡ buffer
unfolding write
none_written buffer = ap (λ bs. take 0 buffer ++ (bs ++ drop (0 + length bs) buffer)) (take_none (length buffer - 0))

number_told : (w : World) (t : Result (List ℕ × ℕ) Refusal) (buffer : List ℕ) → (line_answered w t buffer).0.number ≡ taken_number t
number_told w (Err r) buffer = refl
number_told w (Ok l) buffer = refl

world_told : (w : World) (t : Result (List ℕ × ℕ) Refusal) (buffer : List ℕ) → (line_answered w t buffer).1.0 ≡ after_line w t
world_told w (Err r) buffer = refl
world_told w (Ok l) buffer = refl

written_told : (w : World) (t : Result (List ℕ × ℕ) Refusal) (buffer : List ℕ) → (line_answered w t buffer).1.1 ≡ (write buffer 0 (all_replies (outcomes_of_line w t))).1
written_told w (Err r) buffer = sym (none_written buffer)
written_told w (Ok l) buffer = refl

pub lines_sent : LinesSent
lines_sent w bytes buffer =
    let t = line_taken w bytes (length buffer) in
    record { number = number_told w t buffer; world = world_told w t buffer; written = written_told w t buffer }
