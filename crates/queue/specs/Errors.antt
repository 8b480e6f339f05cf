-- The errors that wait, the oldest first. Assumes nothing.
use Rattle.std.specs.Prelude.{ℕ, ◌-◌, cond, List, None, Option, ◌==◌}
use Rattle.std.specs.List.{slice_get}
use Rattle.queue.specs.declared.error_entry.ErrorEntry.{ErrorEntry}
use Rattle.queue.specs.declared.error_queue.ErrorQueue.{ErrorQueue}
use Rattle.queue.specs.Queue.{waiting}

abbrev pub entries : ErrorQueue → List ErrorEntry
entries q = waiting q.slots q.len

-- the n-th oldest, counted from 1
abbrev pub nth_error : ℕ → List ErrorEntry → Option ErrorEntry
nth_error n errors = cond (n == 0) None (slice_get errors (n - 1))
