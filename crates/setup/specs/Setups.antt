-- A file of setup records, one for each axis. Assumes nothing.
use Rattle.std.specs.Prelude.{ℕ, zero, suc, ◌-◌, ◌/◌, ◌%◌, Bool, true, false, cond, ◌&&◌, List, [], ◌∷◌, ◌++◌, length, drop, pos, None, Ok, Err, Option, Result, ◌==◌, nat_le, nat_lt}
use Rattle.std.specs.List.{list_all, slice_get}
use Rattle.fixed.specs.Lists.{held}
use Rattle.queue.specs.declared.refusal.Refusal.{Refusal}
use Rattle.queue.specs.declared.refusal.Refusal.TheVariants.{RecordCount, RecordLayout}
use Rattle.setup.specs.declared.record.SetupRecord.{SetupRecord}
use Rattle.setup.specs.declared.setup_table.Setup.{Setup}
use Rattle.setup.specs.Records.{record_of, lawful}

abbrev pub records_in : Setup → List SetupRecord
records_in s = held s.list

-- what stands where there is no record
abbrev pub no_record : SetupRecord
no_record = record { name = []; max_velocity = 0; max_acceleration = 0; left = pos 0; right = pos 0 }

-- the record of an axis, counted from 1
abbrev pub nth_record : ℕ → List SetupRecord → Option SetupRecord
nth_record n rs = cond (n == 0) None (slice_get rs (n - 1))

-- one more at the end, 12 at most
abbrev pub one_more : List SetupRecord → SetupRecord → Bool × List SetupRecord
one_more rs r = cond (nat_lt (length rs) 12) (true, rs ++ r ∷ []) (false, rs)

-- n records, one behind the other
abbrev pub records_of : ℕ → List ℕ → List SetupRecord
records_of zero bs = []
records_of (suc n) bs = record_of bs ∷ records_of n (drop 48 bs)

-- 2 to 12 whole records
abbrev pub count_ok : ℕ → Bool
count_ok size = nat_le 96 size && nat_le size 576 && size % 48 == 0

-- a whole file: first it has 2 to 12 whole records, then each keeps the layout
abbrev pub decoded : List ℕ → Result (List SetupRecord) Refusal
decoded bs =
    cond (count_ok (length bs))
    (cond (list_all lawful (records_of (length bs / 48) bs)) (Ok (records_of (length bs / 48) bs)) (Err RecordLayout))
    (Err RecordCount)

-- what a decoding gives, the records as a list
abbrev pub listed : Result Setup Refusal → Result (List SetupRecord) Refusal
listed (Ok s) = Ok (records_in s)
listed (Err e) = Err e
