-- Calls with struck lines. Assumes nothing.
use Rattle.std.proofs.Common.{◌≡◌, ℕ, ◌+◌, ◌-◌, ◌<◌, Bool, true, false, cond, ◌&&◌, ltb, leb, List, [], ◌∷◌, ◌++◌, map, length, take, drop, Some, None, Ok, Err, Option, Result, sym, refl, ap, ◌∙◌, true≢false, one-add, arith, length-append, length-drop, take-append-drop}
use Rattle.std.specs.List.{prefix_len}
use Rattle.std.proofs.lemmas.Bool.{ltb-true, ltb-false, lt-ltb, le-ltb, and_parts}
use Rattle.command.specs.Lines.{apart, line_of}
use Rattle.command.specs.Commands.{Command, commands_of}
use Rattle.command.proofs.Parted.{up_to_is}
use Rattle.queue.specs.declared.refusal.Refusal.{Refusal}
use Rattle.queue.specs.declared.refusal.Refusal.TheVariants.{DriveMismatch, ReplyTooSmall, TickCount}
use Rattle.rules.specs.World.{Core, World}
use Rattle.rules.specs.Deeds.{beats}
use Rattle.rules.specs.Steps.{outcomes}
use Rattle.rules.specs.Calls.{Answer, refusing, accepting, matches, too_long, line_world, line_outcomes, found, line_taken, ticks_call}
use Rattle.rules.specs.Runs.{Call, line_sent, ticks_made, error_asked, after_line, outcomes_of_line, called, call_outcomes}
use Rattle.laws.specs.Strike.{flags, unflagged, struck_line, before_cr, struck_bytes, struck_call, over_long, long_line, Shown, shown_all, commands_found, commands_in, taken_number, call_number}
use Rattle.laws.proofs.StrikingViews.{view}
use Rattle.laws.proofs.StrikingSteps.{quiet_world}
use Rattle.laws.proofs.StrikingLists.{all_shown, all_next, seen_commands, core_commands, seen_flags, flags_seen, left}
use Rattle.laws.proofs.StrikingTexts.{free, up_to_free, line_free, line_short, line_kept, struck_commands}

-- ---- the line of a struck call

leading_free : (s : ℕ) (xs ys : List ℕ) → free s xs ≡ true → prefix_len (apart s) (xs ++ ys) ≡ length xs + prefix_len (apart s) ys
leading_free s [] ys h = omega arith
leading_free s (x ∷ xs) ys h =
    let p = and_parts (apart s x) (free s xs) h in
    let more = leading_free s xs ys p.1 in
    ap (λ b. cond b (1 + prefix_len (apart s) (xs ++ ys)) 0) p.0 ∙ omega arith

at_cr : (xs : List ℕ) → prefix_len (apart 13) (drop (before_cr xs) xs) ≡ 0
at_cr [] = refl
at_cr (x ∷ xs) =
    (elim (apart 13 x) as (λ b. apart 13 x ≡ b → prefix_len (apart 13) (drop (cond b (1 + prefix_len (apart 13) xs) 0) (x ∷ xs)) ≡ 0) [
      | true ↦ λ e. ap (λ n. prefix_len (apart 13) (drop n (x ∷ xs))) (one-add (prefix_len (apart 13) xs)) ∙ at_cr xs
      | false ↦ λ e. ap (λ b. cond b (1 + prefix_len (apart 13) xs) 0) e
    ]) refl

take_front : (xs ys : List ℕ) → take (length xs) (xs ++ ys) ≡ xs
take_front [] ys = refl
take_front (x ∷ xs) ys = ap (λ zs. x ∷ zs) (take_front xs ys)

line_clean : (bytes : List ℕ) → free 13 (take (before_cr bytes) bytes) ≡ true
line_clean bytes = ap (free 13) (sym (up_to_is 13 bytes)) ∙ up_to_free 13 bytes

-- bytes without a CR, and a CR behind them
line_at : (s r : List ℕ) → free 13 s ≡ true → prefix_len (apart 13) r ≡ 0 → 0 < length r → line_of (s ++ r) ≡ Some (s, length s + 1)
line_at s r h z some =
    let at : prefix_len (apart 13) (s ++ r) ≡ length s + prefix_len (apart 13) r = leading_free 13 s r h in
    let here : prefix_len (apart 13) (s ++ r) ≡ length s = omega arith in
    let long : length (s ++ r) ≡ length s + length r = length-append s r in
    let more : ltb (length s) (length (s ++ r)) ≡ true = lt-ltb (length s) (length (s ++ r)) (omega arith) in
    ap (λ k. cond (ltb k (length (s ++ r))) (Some (take k (s ++ r), k + 1)) None) here
    ∙ ap (λ b. cond b (Some (take (length s) (s ++ r), length s + 1)) None) more
    ∙ ap (λ l. Some (l, length s + 1)) (take_front s r)

-- the line is struck, and ends at the same CR
line_struck : (blanks : Bool) (bs : List Bool) (bytes : List ℕ) → ltb (before_cr bytes) (length bytes) ≡ true → line_of (struck_bytes blanks bs bytes) ≡ Some (struck_line blanks bs (take (before_cr bytes) bytes), length (struck_line blanks bs (take (before_cr bytes) bytes)) + 1)
line_struck blanks bs bytes h =
    let n = before_cr bytes in
    let lt : n < length bytes = ltb-true n (length bytes) h in
    let rest : length (drop n bytes) ≡ length bytes - n = length-drop n bytes in
    line_at (struck_line blanks bs (take n bytes)) (drop n bytes) (line_free blanks bs (take n bytes) (line_clean bytes)) (at_cr bytes) (omega arith)

bytes_kept : (blanks : Bool) (bytes : List ℕ) → struck_bytes blanks [] bytes ≡ bytes
bytes_kept blanks bytes = ap (λ l. l ++ drop (before_cr bytes) bytes) (line_kept blanks (take (before_cr bytes) bytes)) ∙ take-append-drop (before_cr bytes) bytes

-- ---- what is seen of a call, and the core after it, where no error waits

abbrev text_shown : Core → List ℕ → Bool → List Shown
text_shown k line true = []
text_shown k line false = all_shown k (map view (commands_of line))

abbrev text_next : Core → List ℕ → Bool → Core
text_next k line true = k
text_next k line false = all_next k (map view (commands_of line))

abbrev line_shown : Core → Result (List ℕ × ℕ) Refusal → List Shown
line_shown k (Err r) = []
line_shown k (Ok l) = text_shown k l.0 (too_long l.0)

abbrev line_next : Core → Result (List ℕ × ℕ) Refusal → Core
line_next k (Err r) = k
line_next k (Ok l) = text_next k l.0 (too_long l.0)

abbrev pub call_shown : Core → Call → List Shown
call_shown k (line_sent bytes room) = line_shown k (line_taken (quiet_world k) bytes room)
call_shown k (ticks_made n) = []
call_shown k (error_asked n) = []

abbrev pub call_next : Core → Call → Core
call_next k (line_sent bytes room) = line_next k (line_taken (quiet_world k) bytes room)
call_next k (ticks_made n) = (ticks_call (quiet_world k) n).1.core
call_next k (error_asked n) = k

-- it is the same with errors, and with columns
seen_none : (cs : List Command) → shown_all cs [] ≡ []
seen_none [] = refl
seen_none (c ∷ cs) = refl

seen_text : (w : World) (line : List ℕ) (t : Bool) → shown_all (commands_of line) (line_outcomes w line t) ≡ text_shown w.core line t
seen_text w line true = seen_none (commands_of line)
seen_text w line false = seen_commands w (commands_of line)

core_text : (w : World) (line : List ℕ) (t : Bool) → (line_world w line t).core ≡ text_next w.core line t
core_text w line true = refl
core_text w line false = core_commands w (commands_of line)

-- the line that a call takes, by its tests
abbrev taken_by : Bool → Bool → Option (List ℕ × ℕ) → Result (List ℕ × ℕ) Refusal
taken_by a b o = cond a (cond b (Err ReplyTooSmall) (found o)) (Err DriveMismatch)

seen_line : (w : World) (a b : Bool) (o : Option (List ℕ × ℕ)) → shown_all (commands_found o) (outcomes_of_line w (taken_by a b o)) ≡ line_shown w.core (taken_by a b o)
seen_line w false b o = seen_none (commands_found o)
seen_line w true true o = seen_none (commands_found o)
seen_line w true false None = refl
seen_line w true false (Some l) = seen_text w l.0 (too_long l.0)

core_line : (w : World) (a b : Bool) (o : Option (List ℕ × ℕ)) → (after_line w (taken_by a b o)).core ≡ line_next w.core (taken_by a b o)
core_line w false b o = refl
core_line w true true o = refl
core_line w true false None = refl
core_line w true false (Some l) = core_text w l.0 (too_long l.0)

-- the ticks call, by its tests
abbrev ticks_by : World → ℕ → Bool → Bool → Answer × World
ticks_by w n a b = cond a (cond b (accepting [], record { core = (beats n w.core).core; errors = w.errors }) (refusing TickCount, w)) (refusing DriveMismatch, w)

core_ticks : (w : World) (n : ℕ) (a b : Bool) → (ticks_by w n a b).1.core ≡ (ticks_by (quiet_world w.core) n a b).1.core
core_ticks w n false b = refl
core_ticks w n true true = refl
core_ticks w n true false = refl

pub seen_call : (w : World) (x : Call) → shown_all (commands_in x) (call_outcomes w x) ≡ call_shown w.core x
seen_call w (line_sent bytes room) = seen_line w (matches w.core.desk.axes w.core.drive) (ltb room 4096) (line_of bytes)
seen_call w (ticks_made n) = refl
seen_call w (error_asked n) = refl

pub core_call : (w : World) (x : Call) → (called w x).core ≡ call_next w.core x
core_call w (line_sent bytes room) = core_line w (matches w.core.desk.axes w.core.drive) (ltb room 4096) (line_of bytes)
core_call w (ticks_made n) = core_ticks w n (matches w.core.desk.axes w.core.drive) (leb 1 n && leb n 60000)
core_call w (error_asked n) = refl

-- the number of the ticks call goes by the core
number_ticks : (w : World) (n : ℕ) (a b : Bool) → (ticks_by w n a b).0.number ≡ (ticks_by (quiet_world w.core) n a b).0.number
number_ticks w n false b = refl
number_ticks w n true true = refl
number_ticks w n true false = refl

pub number_core : (w : World) (x : Call) → call_number w x ≡ call_number (quiet_world w.core) x
number_core w (line_sent bytes room) = refl
number_core w (ticks_made n) = number_ticks w n (matches w.core.desk.axes w.core.drive) (leb 1 n && leb n 60000)
number_core w (error_asked n) = refl

-- ---- a struck line

record TextLeft (w : World) (line : List ℕ) (t : Bool) (blanks : Bool) (bs : List Bool) : Type 0 where
  same : text_shown w.core (struck_line blanks bs line) (too_long (struck_line blanks bs line)) ≡ unflagged bs (text_shown w.core line t)
  ends : text_next w.core (struck_line blanks bs line) (too_long (struck_line blanks bs line)) ≡ text_next w.core line t

short_still : (blanks : Bool) (bs : List Bool) (line : List ℕ) → too_long line ≡ false → too_long (struck_line blanks bs line) ≡ false
short_still blanks bs line h =
    let a = ltb-false 80 (length line) h in
    let b = line_short blanks bs line in
    le-ltb 80 (length (struck_line blanks bs line)) (omega arith)

text_left : (w : World) (marked : ℕ → Bool) (blanks : Bool) (line : List ℕ) (t : Bool) → too_long line ≡ t → TextLeft w line t blanks (flags marked (line_outcomes w line t))
text_left w marked blanks line true h =
    record {
      same = ap (λ l. text_shown w.core l (too_long l)) (line_kept blanks line) ∙ ap (text_shown w.core line) h;
      ends = ap (λ l. text_next w.core l (too_long l)) (line_kept blanks line) ∙ ap (text_next w.core line) h;
    }
text_left w marked blanks line false h =
    let k = w.core in
    let cs = map view (commands_of line) in
    let bs = flags marked (outcomes w (commands_of line)) in
    let s = struck_line blanks bs line in
    let e : bs ≡ seen_flags marked (all_shown k cs) = flags_seen marked w (commands_of line) ∙ ap (seen_flags marked) (seen_commands w (commands_of line)) in
    let l = left k cs marked in
    record {
      same = ap (text_shown k s) (short_still blanks bs line h) ∙ ap (all_shown k) (struck_commands blanks bs line) ∙ ap (λ fs. all_shown k (unflagged fs cs)) e ∙ l.same ∙ ap (λ fs. unflagged fs (all_shown k cs)) (sym e);
      ends = ap (text_next k s) (short_still blanks bs line h) ∙ ap (all_next k) (struck_commands blanks bs line) ∙ ap (λ fs. all_next k (unflagged fs cs)) e ∙ l.ends;
    }

-- ---- a struck call

pub record CallLeft (k : Core) (x : Call) (blanks : Bool) (bs : List Bool) : Type 0 where
  pub same : call_shown k (struck_call blanks bs x) ≡ unflagged bs (call_shown k x)
  pub number : call_number (quiet_world k) (struck_call blanks bs x) ≡ call_number (quiet_world k) x
  pub ends : call_next k (struck_call blanks bs x) ≡ call_next k x

-- the same of the lines that a call takes, before striking and after
record TakenLeft (k : Core) (old new : Result (List ℕ × ℕ) Refusal) (bs : List Bool) : Type 0 where
  same : line_shown k new ≡ unflagged bs (line_shown k old)
  number : taken_number new ≡ taken_number old
  ends : line_next k new ≡ line_next k old

-- the line that the bytes hold, by the test for a CR
abbrev line_by : List ℕ → Bool → Option (List ℕ × ℕ)
line_by bytes c = cond c (Some (take (before_cr bytes) bytes, before_cr bytes + 1)) None

found_left : (w : World) (marked : ℕ → Bool) (blanks : Bool) (bytes : List ℕ) (c : Bool) → ltb (before_cr bytes) (length bytes) ≡ c → TakenLeft w.core (found (line_by bytes c)) (found (line_of (struck_bytes blanks (flags marked (outcomes_of_line w (found (line_by bytes c)))) bytes))) (flags marked (outcomes_of_line w (found (line_by bytes c))))
found_left w marked blanks bytes true h =
    let k = w.core in
    let line = take (before_cr bytes) bytes in
    let bs = flags marked (line_outcomes w line (too_long line)) in
    let t = text_left w marked blanks line (too_long line) refl in
    let e = line_struck blanks bs bytes h in
    record { same = ap (λ o. line_shown k (found o)) e ∙ t.same; number = ap (λ o. taken_number (found o)) e; ends = ap (λ o. line_next k (found o)) e ∙ t.ends }
found_left w marked blanks bytes false h =
    let k = w.core in
    let e = ap line_of (bytes_kept blanks bytes) ∙ ap (line_by bytes) h in
    record { same = ap (λ o. line_shown k (found o)) e; number = ap (λ o. taken_number (found o)) e; ends = ap (λ o. line_next k (found o)) e }

taken_left : (w : World) (marked : ℕ → Bool) (blanks : Bool) (bytes : List ℕ) (a b : Bool) → TakenLeft w.core (taken_by a b (line_of bytes)) (taken_by a b (line_of (struck_bytes blanks (flags marked (outcomes_of_line w (taken_by a b (line_of bytes)))) bytes))) (flags marked (outcomes_of_line w (taken_by a b (line_of bytes))))
taken_left w marked blanks bytes false b = record { same = refl; number = refl; ends = refl }
taken_left w marked blanks bytes true true = record { same = refl; number = refl; ends = refl }
taken_left w marked blanks bytes true false = found_left w marked blanks bytes (ltb (before_cr bytes) (length bytes)) refl

pub call_left : (w : World) (marked : ℕ → Bool) (blanks : Bool) (x : Call) → CallLeft w.core x blanks (flags marked (call_outcomes w x))
call_left w marked blanks (line_sent bytes room) =
    let t = taken_left w marked blanks bytes (matches w.core.desk.axes w.core.drive) (ltb room 4096) in
    record { same = t.same; number = t.number; ends = t.ends }
call_left w marked blanks (ticks_made n) = record { same = refl; number = refl; ends = refl }
call_left w marked blanks (error_asked n) = record { same = refl; number = refl; ends = refl }

-- ---- a line that is too long leaves the core

long_kept : (k : Core) (a b : Bool) (o : Option (List ℕ × ℕ)) → over_long o ≡ true → line_next k (taken_by a b o) ≡ k
long_kept k false b o h = refl
long_kept k true true o h = refl
long_kept k true false None h = refl
long_kept k true false (Some l) h = ap (text_next k l.0) h

pub long_next : (k : Core) (x : Call) → long_line x ≡ true → call_next k x ≡ k
long_next k (line_sent bytes room) h = long_kept k (matches k.desk.axes k.drive) (ltb room 4096) (line_of bytes) h
long_next k (ticks_made n) h = absurd (true≢false (sym h))
long_next k (error_asked n) h = refl
