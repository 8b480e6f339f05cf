use Rattle.std.proofs.Common.{◌≡◌, ◌*◌, length, take}
use Rattle.std.specs.List.{flat_map}
use Rattle.setup.specs.Records.{bytes_of}
use Rattle.setup.specs.Setups.{records_in}
use Rattle.setup.specs.Encoding.{written}
use Rattle.setup.proofs.writing.put_all.Given as goal

abbrev pub invariant-loop-k : goal.invariant-loop-k
invariant-loop-k l =
    (l.out ≡ written 0 (flat_map bytes_of (take l.k (records_in l.setup))) l.initial.out)
    × (length (flat_map bytes_of (take l.k (records_in l.setup))) ≡ 48 * l.k)
