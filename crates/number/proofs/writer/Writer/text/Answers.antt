use Rattle.std.proofs.Common.{◌+◌, drop, sym, ap, ◌∙◌}
use Rattle.std.proofs.lemmas.List.{at_drop_more, at_drop_all}
use Rattle.number.specs.Writer.{wrote}
use Rattle.number.proofs.Wrote.{wrote_nothing, wrote_after}
use Rattle.number.proofs.writer.Writer.text.Goals as goal

pub loop-byte-preserved : goal.loop-byte-preserved
loop-byte-preserved c =
    ap (λ w. wrote w (drop (c.loop-byte.byte-index + 1) c.args.text.now)) c.byte.ensures
    ∙ wrote_after c.loop-byte.self _ _
    ∙ sym (at_drop_more (wrote c.loop-byte.self) c.args.text.now c.loop-byte.byte-index 0 c.loop-byte-test.true)
    ∙ c.loop-byte.invariant

pub returns : goal.returns
returns c =
    sym (at_drop_all (wrote c.loop-byte.self) c.args.text.now c.loop-byte.byte-index c.loop-byte-test.false ∙ wrote_nothing _) ∙ c.loop-byte.invariant
