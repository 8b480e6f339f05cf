use Rattle.std.proofs.Common.{◌≡◌, length, arith, w32, SFits, of_z, rules}
use Rattle.std.proofs.lemmas.List.{length-append}
use Rattle.std.proofs.lemmas.Int.{to_z-of_z}
use Rattle.setup.proofs.Writes.{parts_written}
use Rattle.setup.proofs.writing.put_record.Goals as goal

pub returns : goal.returns
returns c =
    let one = c.args.one.now in
    let size : length one.name ≡ 32 = search rules in
    let fl : SFits w32 one.left = search rules in
    let fr : SFits w32 one.right = search rules in
    let l = simp to_z-of_z at c.to_le_bytes-3.ensures in
    let r = simp to_z-of_z at c.to_le_bytes-4.ensures in
    record {
      bytes =
          parts_written c.args.at one.name _ _ _ _ _ _ _ _ _ _ one.max_velocity one.max_acceleration (of_z w32 one.left) (of_z w32 one.right) size
          c.to_le_bytes.ensures c.to_le_bytes-2.ensures l r (omega arith) c.put.ensures c.put-2.ensures c.put-3.ensures c.put-4.ensures c.put-5.ensures;
      size = simp length-append (omega arith);
    }
