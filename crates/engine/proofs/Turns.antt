-- One command of a line more.
use Rattle.std.proofs.Common.{◌≡◌, ℕ, ◌+◌, ◌*◌, ◌≤◌, cond, List, ◌∷◌, ◌++◌, length, take, drop, is_some, Some, None, sym, refl, ap, ◌∙◌, arith}
use Rattle.std.specs.List.{sum_by}
use Rattle.std.specs.Option.{option_map}
use Rattle.std.proofs.lemmas.List.{length-append, take_at}
use Rattle.std.proofs.lemmas.List.Sums.{sum_by-cons}
use Rattle.number.specs.Digits.{number}
use Rattle.number.specs.Writing.{write}
use Rattle.number.specs.Writer.{wrote}
use Rattle.number.specs.declared.writer.Writer.{Writer}
use Rattle.number.proofs.Written.{write_room}
use Rattle.number.proofs.Wrote.{wrote_after}
use Rattle.command.specs.Commands.{Command, least_size}
use Rattle.command.specs.Laws.{taken}
use Rattle.rules.specs.World.{World}
use Rattle.rules.specs.Refusals.{has_prefix}
use Rattle.rules.specs.Steps.{step, run_commands, outcomes, reply_bytes, all_replies}
use Rattle.engine.specs.Bounds.{most_reply, Whole}

-- the most that a command replies, by its bytes
most_by_size : (c : Command) → most_reply c ≤ 40 * (least_size c + 1)
most_by_size c =
    elim c.mnemonic as (λ o. cond (is_some o) (cond (has_prefix c) 158 52) 0 ≤ 40 * (cond (is_some c.prefix) 1 0 + cond (is_some o) 2 0 + 1)) [
      | None ↦ omega arith
      | Some m ↦ elim c.prefix as (λ o. cond (is_some (option_map (λ f. number f.bytes) o)) 158 52 ≤ 40 * (cond (is_some o) 1 0 + 2 + 1)) [ None ↦ omega arith | Some f ↦ omega arith ]
    ]

-- what fits is written whole
pub whole_written : {n : ℕ} {is : List ℕ} (was bytes : List ℕ) → (n, is) ≡ write was 0 bytes → length bytes ≤ length was → Whole bytes n is
whole_written {n} {is} was bytes e fits =
    let from : 0 + length bytes ≡ length bytes = omega arith in
    let all : (n, is) ≡ (length bytes, bytes ++ drop (length bytes) was) = e ∙ write_room was 0 bytes (omega arith) ∙ (λ i. (from i, bytes ++ drop (from i) was)) in
    record { count = ap (λ p. p.0) all; stands = ap (λ p. take p.0 p.1) all ∙ take_at bytes (drop (length bytes) was) (length bytes) refl }

module _ (w v : World) (cs : List Command) (c : Command) (more : List Command) where
  -- the world that the commands lead to
  pub run_on : {end : World} → run_commands w cs ≡ end → cs ≡ c ∷ more → v ≡ (step w c).world → run_commands v more ≡ end
  run_on inv e f = ap (λ x. run_commands x more) f ∙ (sym (ap (run_commands w) e) ∙ inv)

  -- what is written with their replies
  pub reply_on : (was is : Writer) {end : Writer} → wrote was (all_replies (outcomes w cs)) ≡ end → cs ≡ c ∷ more → v ≡ (step w c).world → is ≡ wrote was (reply_bytes (step w c).outcome) → wrote is (all_replies (outcomes v more)) ≡ end
  reply_on was is inv e f h =
      ap (λ x. wrote is (all_replies (outcomes x more))) f
      ∙ (ap (λ x. wrote x (all_replies (outcomes (step w c).world more))) h
      ∙ (wrote_after was (reply_bytes (step w c).outcome) (all_replies (outcomes (step w c).world more)) ∙ (sym (ap (λ xs. wrote was (all_replies (outcomes w xs))) e) ∙ inv)))

  -- the bytes of all replies, bounded by what the commands take of the line
  pub bound_on : (n bound : ℕ) → n + 40 * sum_by taken cs ≤ length (all_replies (outcomes w cs)) + bound → cs ≡ c ∷ more → v ≡ (step w c).world → length (reply_bytes (step w c).outcome) ≤ most_reply c → n + 40 * sum_by taken more ≤ length (all_replies (outcomes v more)) + bound
  bound_on n bound inv e f short =
      let all : length (all_replies (outcomes w cs)) ≡ length (reply_bytes (step w c).outcome) + length (all_replies (outcomes v more)) =
      ap (λ xs. length (all_replies (outcomes w xs))) e ∙ (length-append (reply_bytes (step w c).outcome) _ ∙ ap (λ x. length (reply_bytes (step w c).outcome) + length (all_replies (outcomes x more))) (sym f)) in
      let room : sum_by taken cs ≡ taken c + sum_by taken more = ap (sum_by taken) e ∙ sum_by-cons taken c more in
      omega (arith, inv, all, short, room, most_by_size c)
