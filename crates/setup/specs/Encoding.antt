-- Setup records written as bytes, and the law that reading gives them back. Assumes nothing.
use Rattle.std.specs.Prelude.{◌≡◌, ℕ, ◌+◌, ◌*◌, ◌≤◌, true, cond, List, ◌++◌, length, take, drop, Some, None, Ok, Option, FitsSigned, nat_le}
use Rattle.std.specs.Int.{w32}
use Rattle.std.specs.List.{flat_map, AllByRecursion}
use Rattle.setup.specs.declared.record.SetupRecord.{SetupRecord}
use Rattle.setup.specs.Records.{bytes_of, lawful}
use Rattle.setup.specs.Setups.{decoded}

-- xs with the bytes bs from `at` on
abbrev pub written : ℕ → List ℕ → List ℕ → List ℕ
written at bs xs = take at xs ++ (bs ++ drop (at + length bs) xs)

-- the records one behind the other at the front of the buffer, if it has the room; how many bytes that took
abbrev pub encoded : List SetupRecord → List ℕ → Option ℕ × List ℕ
encoded rs out = cond (nat_le (48 * length rs) (length out)) (Some (48 * length rs), written 0 (flat_map bytes_of rs) out) (None, out)

-- a record that keeps the layout, its numbers as wide as the code's
pub record Encodable (r : SetupRecord) : Type 0 where
  pub keeps : lawful r ≡ true
  pub size : length r.name ≡ 32
  pub left : FitsSigned w32 r.left
  pub right : FitsSigned w32 r.right

-- bytes that are read as the records, if there are 2 to 12 and each keeps the layout
abbrev pub ReadsBack : List SetupRecord → List ℕ → Type 0
ReadsBack rs bs = 2 ≤ length rs → length rs ≤ 12 → AllByRecursion Encodable rs → decoded bs ≡ Ok rs
