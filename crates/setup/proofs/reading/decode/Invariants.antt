use Rattle.std.proofs.Common.{◌≡◌}
use Rattle.std.specs.Slice.Iter.{chunks_exact_rest, chunks_exact_size}
use Rattle.setup.specs.Setups.{records_in}
use Rattle.setup.proofs.Files.{Read}
use Rattle.setup.proofs.reading.decode.Given as goal

abbrev pub invariant-loop-part : goal.invariant-loop-part
invariant-loop-part l = (chunks_exact_size l.part-iterator ≡ 48) × Read (records_in l.setup) (chunks_exact_rest l.part-iterator) l.bytes
