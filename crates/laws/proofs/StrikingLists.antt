-- Refused commands are struck out of a list of commands. Assumes nothing.
use Rattle.std.proofs.Common.{◌≡◌, ℕ, suc, Bool, true, false, ◌&&◌, List, [], ◌∷◌, map, sym, refl, ap, ◌∙◌}
use Rattle.command.specs.Commands.{Command}
use Rattle.rules.specs.World.{Core, World}
use Rattle.rules.specs.Steps.{step, run_commands, outcomes}
use Rattle.laws.specs.Strike.{flags, unflagged, Shown, shown_all}
use Rattle.laws.proofs.StrikingViews.{view}
use Rattle.laws.proofs.StrikingSteps.{seen_now, next, seen_step, core_step, faulty, faulty_seen, next_kept}

-- what is seen of commands in turn, and the core after them, where no error waits
abbrev pub all_shown : Core → List Command → List Shown
all_shown k [] = []
all_shown k (c ∷ cs) = record { command = c; result = seen_now k c } ∷ all_shown (next k c) cs

abbrev pub all_next : Core → List Command → Core
all_next k [] = k
all_next k (c ∷ cs) = all_next (next k c) cs

-- it is the same with errors, and with columns
pub seen_commands : (w : World) (cs : List Command) → shown_all cs (outcomes w cs) ≡ all_shown w.core (map view cs)
seen_commands w [] = refl
seen_commands w (c ∷ cs) = (λ i. record { command = view c; result = seen_step w c i } ∷ (seen_commands (step w c).world cs ∙ ap (λ k. all_shown k (map view cs)) (core_step w c)) i)

pub core_commands : (w : World) (cs : List Command) → (run_commands w cs).core ≡ all_next w.core (map view cs)
core_commands w [] = refl
core_commands w (c ∷ cs) = core_commands (step w c).world cs ∙ ap (λ k. all_next k (map view cs)) (core_step w c)

-- the flags by what is seen
abbrev pub seen_flags : (ℕ → Bool) → List Shown → List Bool
seen_flags marked [] = []
seen_flags marked (s ∷ ss) = (marked 0 && faulty s.result) ∷ seen_flags (λ n. marked (suc n)) ss

pub flags_seen : (marked : ℕ → Bool) (w : World) (cs : List Command) → flags marked (outcomes w cs) ≡ seen_flags marked (shown_all cs (outcomes w cs))
flags_seen marked w [] = refl
flags_seen marked w (c ∷ cs) = (λ i. (marked 0 && faulty_seen c (step w c).outcome i) ∷ flags_seen (λ n. marked (suc n)) (step w c).world cs i)

and_right : (a b : Bool) → (a && b) ≡ true → b ≡ true
and_right true b h = h
and_right false b h = cc

-- what is seen of the commands left, and the core after them
pub record Left (k : Core) (cs : List Command) (bs : List Bool) : Type 0 where
  pub same : all_shown k (unflagged bs cs) ≡ unflagged bs (all_shown k cs)
  pub ends : all_next k (unflagged bs cs) ≡ all_next k cs

left_one : (k : Core) (c : Command) (cs : List Command) (bs : List Bool) (m : Bool) → Left (next k c) cs bs → (b : Bool) → (m && faulty (seen_now k c)) ≡ b → Left k (c ∷ cs) (b ∷ bs)
left_one k c cs bs m l true h =
    let e = sym (next_kept k c (and_right m (faulty (seen_now k c)) h)) in
    record { same = ap (λ j. all_shown j (unflagged bs cs)) e ∙ l.same; ends = ap (λ j. all_next j (unflagged bs cs)) e ∙ l.ends }
left_one k c cs bs m l false h = record { same = ap (λ ss. record { command = c; result = seen_now k c } ∷ ss) l.same; ends = l.ends }

pub left : (k : Core) (cs : List Command) (marked : ℕ → Bool) → Left k cs (seen_flags marked (all_shown k cs))
left k [] marked = record { same = refl; ends = refl }
left k (c ∷ cs) marked =
    left_one k c cs (seen_flags (λ n. marked (suc n)) (all_shown (next k c) cs)) (marked 0) (left (next k c) cs (λ n. marked (suc n))) (marked 0 && faulty (seen_now k c)) refl
