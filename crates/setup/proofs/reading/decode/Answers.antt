use Rattle.std.proofs.Common.{◌≡◌, ◌≤◌, true, length, arith, sym, ◌∙◌}
use Rattle.std.specs.Slice.Iter.{chunks_exact_rest}
use Rattle.std.proofs.lemmas.Bool.Decides.{nat_tests}
use Rattle.setup.specs.Setups.{count_ok, records_in}
use Rattle.setup.proofs.Files.{read_start, read_more, read_broken, read_end}
use Rattle.setup.proofs.reading.decode.Goals as goal

pub loop-part-init : goal.loop-part-init
loop-part-init c = (cc, read_start (records_in c.new-setup.result) _ c.args.bytes.now c.new-setup.ensures cc)

pub returns-then-not-record_ok : goal.returns-then-not-record_ok
returns-then-not-record_ok c =
    let step = c.in-Some.ensures.steps in
    let bad = read_broken (records_in c.loop-part.setup) c.in-Some.part.now _ _ c.args.bytes.now c.read_record-found.result step.1.0 (step.1.1 ∙ c.loop-part.invariant.0) c.read_record-found.ensures (sym c.record_ok.ensures ∙ c.if-not-record_ok.true) c.loop-part.invariant.1 in
    grind (arith, nat_tests)

pub loop-part-preserved : goal.loop-part-preserved
loop-part-preserved c =
    let step = c.in-Some.ensures.steps in
    let most : length c.args.bytes.now ≤ 576 = let whole : count_ok (length c.args.bytes.now) ≡ true = cc in grind (arith, nat_tests) in (
      step.0 ∙ c.loop-part.invariant.0,
      read_more (records_in c.loop-part.setup) (records_in c.add.new.self) c.add.result c.in-Some.part.now _ _ c.args.bytes.now c.read_record-found.result step.1.0 (step.1.1 ∙ c.loop-part.invariant.0) most
          c.read_record-found.ensures (sym c.record_ok.ensures ∙ c.if-not-record_ok.false) c.add.ensures c.loop-part.invariant.1,
    )

pub returns : goal.returns
returns c =
    let step = c.in-None.ensures.steps in
    let size = c.loop-part.invariant.0 in
    let short = step.1.0 in
    let all = read_end (records_in c.loop-part.setup) (chunks_exact_rest c.loop-part.part-iterator) c.args.bytes.now (omega arith) c.loop-part.invariant.1 in
    grind (arith, nat_tests)
