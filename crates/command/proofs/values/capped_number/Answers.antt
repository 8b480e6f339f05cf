use Rattle.std.proofs.Common.{◌≡◌, ◌+◌, ◌-◌, ◌*◌, get_or, drop, sym, ◌∙◌, arith}
use Rattle.std.proofs.lemmas.List.{at_drop_more, at_drop_all}
use Rattle.number.specs.Digits.{number_on}
use Rattle.command.specs.Commands.{capped}
use Rattle.command.proofs.Capped.{capped_on}
use Rattle.command.proofs.values.capped_number.Goals as goal

pub loop-c-preserved : goal.loop-c-preserved
loop-c-preserved c =
    let i = c.loop-c.c-index in
    let d = get_or c.args.digits.now i 0 - 48 in
    let same : capped c.min-n.result ≡ capped (c.loop-c.n * 10 + d) = omega arith in (
      capped_on c.min-n.result (c.loop-c.n * 10 + d) (drop (i + 1) c.args.digits.now) same
          ∙ sym (at_drop_more (λ l. capped (number_on c.loop-c.n l)) c.args.digits.now i 0 c.loop-c-test.true)
          ∙ c.loop-c.invariant.0,
      omega arith,
    )

pub returns : goal.returns
returns c =
    let whole : c.loop-c.n ≡ capped c.loop-c.n = omega (arith, c.loop-c.invariant.1) in
    whole ∙ sym (at_drop_all (λ l. capped (number_on c.loop-c.n l)) c.args.digits.now c.loop-c.c-index c.loop-c-test.false) ∙ c.loop-c.invariant.0
