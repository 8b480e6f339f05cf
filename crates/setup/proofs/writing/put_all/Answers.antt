use Rattle.std.proofs.Common.{◌≡◌, ◌*◌, length, get_or, take, sym, ap, ◌∙◌, arith}
use Rattle.std.proofs.lemmas.List.{take_all}
use Rattle.std.specs.List.{flat_map}
use Rattle.setup.specs.Records.{bytes_of}
use Rattle.setup.specs.Setups.{records_in, no_record}
use Rattle.setup.specs.Encoding.{written}
use Rattle.setup.proofs.Backs.{front_back}
use Rattle.setup.proofs.Writes.{record_written}
use Rattle.setup.proofs.writing.put_all.Goals as goal

pub loop-k-preserved : goal.loop-k-preserved
loop-k-preserved c =
    let rs = records_in c.args.setup.now in
    let e = c.records-one-items.ensures.value in
    let size : length c.records-one-items.result.now ≡ length rs = ap length e in
    record_written c.loop-k.k rs no_record c.args.out.now c.loop-k.out c.put_record.new.out (omega arith) (omega arith) c.loop-k.invariant.0 c.loop-k.invariant.1
    (c.put_record.ensures.bytes ∙ ap (λ z. written (48 * c.loop-k.k) (bytes_of (get_or z c.loop-k.k no_record)) c.loop-k.out) e)
    (ap (λ z. length (bytes_of (get_or z c.loop-k.k no_record))) (sym e) ∙ c.put_record.ensures.size)

pub returns : goal.returns
returns c =
    let rs = records_in c.args.setup.now in
    let k : c.loop-k.k ≡ length rs = let e = ap length c.records-one-items.ensures.value in omega arith in
    let all : take c.loop-k.k rs ≡ rs = take_all c.loop-k.k rs (omega arith) in
    let out : c.loop-k.out ≡ written 0 (flat_map bytes_of rs) c.args.out.now = c.loop-k.invariant.0 ∙ ap (λ z. written 0 (flat_map bytes_of z) c.args.out.now) all in
    let size : length (flat_map bytes_of rs) ≡ 48 * length rs = sym (ap (λ z. length (flat_map bytes_of z)) all) ∙ c.loop-k.invariant.1 ∙ ap (λ n. 48 * n) k in
    record { bytes = out; back = front_back rs c.args.out.now c.loop-k.out out size }
