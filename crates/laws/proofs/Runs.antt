-- What every command and every beat keeps, a run keeps.
use Rattle.std.proofs.Common.{◌≡◌, ℕ, Bool, true, false, ◌&&◌, leb, List, [], ◌∷◌, ℤ, Some, None, Ok, Err, Option, Result, sym, refl, ◌∙◌, subst, inl, inr}
use Rattle.std.proofs.lemmas.Bool.{false≢true}
use Rattle.drive.specs.declared.profile.Profile.{Profile}
use Rattle.drive.specs.Calls.{Told, power_on, power_off, start, stop, set_position, tick}
use Rattle.command.specs.declared.mnemonic.Mnemonic.{Mnemonic}
use Rattle.command.specs.Commands.{Command, commands_of}
use Rattle.queue.specs.declared.error_entry.ErrorEntry.{ErrorEntry}
use Rattle.queue.specs.declared.refusal.Refusal.{Refusal}
use Rattle.rules.specs.World.{Core, World, settings}
use Rattle.rules.specs.Deeds.{beats}
use Rattle.rules.specs.Refusals.{tests, refused_by}
use Rattle.rules.specs.Steps.{step, settled, accepted, run_commands}
use Rattle.rules.specs.Calls.{matches, too_long, line_world, line_taken}
use Rattle.rules.specs.Runs.{Call, line_sent, ticks_made, error_asked, after_line, called, run}
use Rattle.laws.specs.Laws.{was_refused, Untouched, AtMost, state, AllTold, KeepsLimits, StartIs, StartsAre}
use Rattle.laws.proofs.Basics.{judged, picked, all_weaker}
use Rattle.laws.proofs.Good.{most, Good}
use Rattle.laws.proofs.Trails.{ProperStart, Proper, beats_calm}
use Rattle.laws.proofs.Deeds.{step_fine}

module _ (P : Core → Type 0) (by-step : (w : World) (c : Command) → P w.core → P (step w c).world.core) (by-beats : (n : ℕ) (k : Core) → P k → P (beats n k).core) where
  pub commands_keep : (w : World) (cs : List Command) → P w.core → P (run_commands w cs).core
  commands_keep w [] h = h
  commands_keep w (c ∷ cs) h = commands_keep (step w c).world cs (by-step w c h)

  line_keeps : (w : World) (line : List ℕ) (b : Bool) → P w.core → P (line_world w line b).core
  line_keeps w line true h = h
  line_keeps w line false h = commands_keep w (commands_of line) h

  taken_keeps : (w : World) (r : Result (List ℕ × ℕ) Refusal) → P w.core → P (after_line w r).core
  taken_keeps w (Err r) h = h
  taken_keeps w (Ok l) h = line_keeps w l.0 (too_long l.0) h

  pub call_keeps : (w : World) (x : Call) → P w.core → P (called w x).core
  call_keeps w (line_sent bytes room) h = taken_keeps w (line_taken w bytes room) h
  call_keeps w (ticks_made n) h = picked (matches w.core.desk.axes w.core.drive) (λ (v : World). P v.core) _ _ (picked (leb 1 n && leb n 60000) (λ (v : World). P v.core) _ _ (by-beats n w.core h) h) h
  call_keeps w (error_asked n) h = h

  pub run_keeps : (w : World) (xs : List Call) → P w.core → P (run w xs).core
  run_keeps w [] h = h
  run_keeps w (x ∷ xs) h = run_keeps (called w x) xs (call_keeps w x h)

  pub state_keeps : (w : World) (xs : List Call) (cs : List Command) → P w.core → P (state w xs cs).core
  state_keeps w xs cs h = commands_keep (run w xs) cs (run_keeps w xs h)

-- ---- the state is good at every moment, and the maxima stay

pub step_good : (w : World) (c : Command) → Good w.core → Good (step w c).world.core
step_good w c g = (step_fine w c g).good

pub beats_good : (n : ℕ) (k : Core) → Good k → Good (beats n k).core
beats_good n k g = (beats_calm n k g).fine.good

pub state_good : (w : World) → Good w.core → (xs : List Call) (cs : List Command) → Good (state w xs cs).core
state_good w g xs cs = state_keeps Good step_good beats_good w xs cs g

-- good, with these maxima
pub record Capped (f : ℕ → Profile) (k : Core) : Type 0 where
  pub good : Good k
  pub mosts : (n : ℕ) → most (settings k n) ≡ f n

pub state_capped : (f : ℕ → Profile) (w : World) → Capped f w.core → (xs : List Call) (cs : List Command) → Capped f (state w xs cs).core
state_capped f w g xs cs =
    state_keeps (Capped f)
    (λ v c h. let t = step_fine v c h.good in record { good = t.good; mosts = λ n. t.mosts n ∙ h.mosts n })
    (λ n k h. let t = (beats_calm n k h.good).fine in record { good = t.good; mosts = λ i. t.mosts i ∙ h.mosts i })
    w xs cs g

-- ---- laws

pub all_told : (w : World) → Good w.core → (xs : List Call) (cs : List Command) → AllTold w xs cs
all_told w g xs cs =
    let s = state w xs cs in
    let h = state_good w g xs cs in
    record { command = λ c. (step_fine s c h).whole; beating = λ k. (beats_calm k s.core h).fine.whole }

pub refused_keeps : (w : World) (c : Command) → was_refused (step w c).outcome ≡ true → Untouched w c
refused_keeps w c =
    let P : Option ErrorEntry → Type 0 = λ o. was_refused (settled w c o).outcome ≡ true → ((settled w c o).told ≡ []) × ((settled w c o).world.core ≡ w.core) in
    let told : P (refused_by w.core c) = elim (judged (tests w.core c)) [ inl r ↦ subst P (sym r.1) (λ e. (refl, refl)) | inr r ↦ subst P (sym r.1) (not_refused c.mnemonic) ] in
    λ e. record { nothing_told = (told e).0; core_kept = (told e).1 }
  where
    not_refused : (o : Option Mnemonic) → was_refused (accepted w o c).outcome ≡ true → ((accepted w o c).told ≡ []) × ((accepted w o c).world.core ≡ w.core)
    not_refused None e = absurd (false≢true e)
    not_refused (Some m) e = absurd (false≢true e)

pub keeps_limits : (w : World) → Good w.core → KeepsLimits w
keeps_limits w g xs cs k n =
    let a = (beats_good k (state w xs cs).core (state_good w g xs cs)).each n in
    record { left_position = a.left_position; position_right = a.position_right; left_target = a.left_target; target_right = a.target_right }

-- what holds of proper starts holds of all that are told
pub start_is : (k : Core) (P : ℕ → Profile → Type 0) → ((n : ℕ) (z : ℤ) (q : Profile) → ProperStart k n z q → P n q) → (t : Told) → Proper k t → StartIs P t
start_is k P f (power_on n) p = tt
start_is k P f (power_off n) p = tt
start_is k P f (start n z q) p = f n z q p
start_is k P f (stop n) p = tt
start_is k P f (set_position n z) p = tt
start_is k P f tick p = tt

pub starts_are : (P : ℕ → Profile → Type 0) (w : World) (xs : List Call) (cs : List Command) → Good (state w xs cs).core → ((n : ℕ) (z : ℤ) (q : Profile) → ProperStart (state w xs cs).core n z q → P n q) → StartsAre P w xs cs
starts_are P w xs cs g f =
    let s = state w xs cs in
    record {
      command = λ c. all_weaker (Proper s.core) (StartIs P) (start_is s.core P f) (step s c).told (step_fine s c g).proper;
      beating = λ k. all_weaker (Proper s.core) (StartIs P) (start_is s.core P f) (beats k s.core).told (beats_calm k s.core g).fine.proper;
    }

-- a proper start is not over
pub proper_most : (k : Core) → Good k → (n : ℕ) (z : ℤ) (q : Profile) → ProperStart k n z q → AtMost q (most (settings k n))
proper_most k g n z q p =
    elim p.due as (λ _. AtMost q (most (settings k n))) [
      | inl h ↦ subst (λ r. AtMost r (most (settings k n))) (sym h.1.1) ((g.groups h.0).figures n h.1.0)
      | inr h ↦ subst (λ r. AtMost r (most (settings k n))) (sym h.1) (g.each n).own_most
    ]
