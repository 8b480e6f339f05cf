-- THE law of striking. Assumes nothing.
use Rattle.std.proofs.Common.{◌≡◌, ℕ, Bool, true, false, cond, ◌&&◌, List, [], ◌∷◌, sym, refl, ap, ◌∙◌}
use Rattle.std.proofs.lemmas.Bool.{and_parts}
use Rattle.rules.specs.World.{World}
use Rattle.rules.specs.Runs.{Call, called, call_outcomes, run, report}
use Rattle.laws.specs.Strike.{Marks, later_marks, flags, unflagged, struck_call, long_line, strike, Shown, shown_all, commands_in, shown_run, shown_left, call_number, call_numbers, numbers_left, Striking}
use Rattle.laws.proofs.StrikingSteps.{quiet_world}
use Rattle.laws.proofs.StrikingCalls.{call_shown, call_next, seen_call, core_call, number_core, call_left, long_next}

-- the run xs from w, and the run of the calls left from v
record Alike (w v : World) (xs left : List Call) (seen : List (List Shown)) (ns : List ℕ) : Type 0 where
  same : shown_run left (report v left) ≡ seen
  numbers : call_numbers v left ≡ ns
  ends : (run v left).core ≡ (run w xs).core

alike_one : (w v : World) (m : Marks) (x : Call) (xs left : List Call) (seen : List (List Shown)) (ns : List ℕ) → w.core ≡ v.core → ((u : World) → (called w x).core ≡ u.core → Alike (called w x) u xs left seen ns) → (b : Bool) → (m.lines 0 && long_line x) ≡ b → Alike w v (x ∷ xs) (cond b left (struck_call m.blanks (flags (m.commands 0) (call_outcomes w x)) x ∷ left)) (cond b seen (unflagged (flags (m.commands 0) (call_outcomes w x)) (shown_all (commands_in x) (call_outcomes w x)) ∷ seen)) (cond b ns (call_number w x ∷ ns))
alike_one w v m x xs left seen ns e later true h =
    let gone = long_next w.core x (and_parts (m.lines 0) (long_line x) h).1 in
    let a = later v (core_call w x ∙ gone ∙ e) in
    record { same = a.same; numbers = a.numbers; ends = a.ends }
alike_one w v m x xs left seen ns e later false h =
    let bs = flags (m.commands 0) (call_outcomes w x) in
    let y = struck_call m.blanks bs x in
    let l = call_left w (m.commands 0) m.blanks x in
    let a = later (called v y) (core_call w x ∙ sym l.ends ∙ ap (λ k. call_next k y) e ∙ sym (core_call v y)) in
    let here : shown_all (commands_in y) (call_outcomes v y) ≡ unflagged bs (shown_all (commands_in x) (call_outcomes w x)) =
    seen_call v y ∙ ap (λ k. call_shown k y) (sym e) ∙ l.same ∙ ap (unflagged bs) (sym (seen_call w x)) in
    let number : call_number v y ≡ call_number w x =
    number_core v y ∙ ap (λ k. call_number (quiet_world k) y) (sym e) ∙ l.number ∙ sym (number_core w x) in
    record { same = (λ i. here i ∷ a.same i); numbers = (λ i. number i ∷ a.numbers i); ends = a.ends }

alike : (w v : World) (m : Marks) (xs : List Call) → w.core ≡ v.core → Alike w v xs (strike m xs (report w xs)) (shown_left m xs (report w xs)) (numbers_left m xs (call_numbers w xs))
alike w v m [] e = record { same = refl; numbers = refl; ends = sym e }
alike w v m (x ∷ xs) e =
    let n = later_marks m in
    let u = called w x in
    alike_one w v m x xs (strike n xs (report u xs)) (shown_left n xs (report u xs)) (numbers_left n xs (call_numbers u xs)) e
    (λ t h. alike u t n xs h) (m.lines 0 && long_line x) refl

pub striking : Striking
striking w m xs = let a = alike w w m xs refl in record { same = a.same; numbers = a.numbers; ends = a.ends }
