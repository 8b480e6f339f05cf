-- A step without columns and errors: it is judged on the core alone, and columns change nothing. Assumes nothing.
use Rattle.std.proofs.Common.{◌≡◌, ℕ, Bool, true, false, not, ◌&&◌, ◌||◌, eqb, List, [], ◌∷◌, ◌++◌, map, pos, ◌+ℤ◌, nat_abs, Some, None, Option, sym, refl, ap, ◌∙◌, true≢false}
use Rattle.std.specs.Option.{option_map}
use Rattle.drive.specs.Calls.{power_on, power_off, start, stop, set_position}
use Rattle.number.specs.Texts.{whole_text, setting_text, list_text}
use Rattle.command.specs.declared.mnemonic.Mnemonic.{Mnemonic}
use Rattle.command.specs.declared.mnemonic.Mnemonic.TheVariants.{Va, Ac, Ag, Sl, Sr, Fp, Mo, Mf, Pa, Pr, St, Dh, Ws, Id, Tp, Dp, Md, Hn, Hx, Hv, Ha, Hd, Ho, Hf, Hl, Hp, Hw, Ab, Wt, Tb, Te}
use Rattle.command.specs.Commands.{Command}
use Rattle.queue.specs.declared.error_entry.ErrorEntry.{ErrorEntry}
use Rattle.desk.specs.Axes.{name_text}
use Rattle.desk.specs.Desks.{velocity_set, acceleration_set, deceleration_set, left_set, right_set, digits_set, group_velocity_set, group_acceleration_set, group_deceleration_set, formed, dissolved, waypoints_emptied}
use Rattle.rules.specs.World.{Core, World, settings, group, members, axis_at, resting, powered}
use Rattle.rules.specs.Kinds.{is, among, error_commands}
use Rattle.rules.specs.Refusals.{asking, whole_value, tests, refusal, refused_by}
use Rattle.rules.specs.Deeds.{note, tell, and_then, wait_for, still, group_still, send, all_rest, waits, beats, does, unless_asking, performed, perform}
use Rattle.rules.specs.Replies.{flag_text, place_text, position_told, answer_text, telling, code_text, message_text}
use Rattle.rules.specs.Steps.{Outcome, refused, replied, text_if, replies, accepted, settled, step}
use Rattle.laws.specs.Strike.{turned_down, Seen, faulted, answered, errors_told, tells_errors, seen_reply, seen}
use Rattle.laws.proofs.StrikingViews.{view, entry_view, given_view, values_view, units_view, refusal_view}
use Rattle.laws.proofs.StrikingTests.{axis_same, group_same, asking_same, tests_view}

-- ---- what it does

does_view : (k : Core) (m : Mnemonic) (c : Command) → does k m (view c) ≡ does k m c
does_view k Va c = (λ i. note (velocity_set (axis_same c i) (nat_abs (given_view c i)) k.desk).1 k)
does_view k Ac c = (λ i. note (acceleration_set (axis_same c i) (nat_abs (given_view c i)) k.desk).1 k)
does_view k Ag c = (λ i. note (deceleration_set (axis_same c i) (nat_abs (given_view c i)) k.desk).1 k)
does_view k Sl c = (λ i. note (left_set (axis_same c i) (given_view c i) k.desk).1 k)
does_view k Sr c = (λ i. note (right_set (axis_same c i) (given_view c i) k.desk).1 k)
does_view k Fp c = (λ i. note (digits_set (axis_same c i) (whole_value (given_view c i)) k.desk).1 k)
does_view k Mo c = (λ i. tell (power_on (axis_same c i) ∷ []) k)
does_view k Mf c = (λ i. tell (power_off (axis_same c i) ∷ []) k)
does_view k Pa c = (λ i. tell (start (axis_same c i) (given_view c i) (settings k (axis_same c i)).own ∷ []) k)
does_view k Pr c = (λ i. tell (start (axis_same c i) ((axis_at k (axis_same c i)).target +ℤ given_view c i) (settings k (axis_same c i)).own ∷ []) k)
does_view k St c = (λ i. tell (stop (axis_same c i) ∷ []) k)
does_view k Dh c = (λ i. tell (set_position (axis_same c i) (given_view c i) ∷ []) k)
does_view k Ws c = (λ i. wait_for (still (eqb (axis_same c i) 0) (axis_same c i)) k)
does_view k Id c = refl
does_view k Tp c = refl
does_view k Dp c = refl
does_view k Md c = refl
does_view k Hn c = (λ i. note (formed (group_same k c i) (units_view c.parameters i) k.desk).1 k)
does_view k Hx c = (λ i. and_then (tell (map stop (members k (group_same k c i))) k) (λ j. note (dissolved (group_same k c i) j.desk).1 j))
does_view k Hv c = (λ i. note (group_velocity_set (group_same k c i) (nat_abs (given_view c i)) k.desk).1 k)
does_view k Ha c = (λ i. note (group_acceleration_set (group_same k c i) (nat_abs (given_view c i)) k.desk).1 k)
does_view k Hd c = (λ i. note (group_deceleration_set (group_same k c i) (nat_abs (given_view c i)) k.desk).1 k)
does_view k Ho c = (λ i. tell (map power_on (members k (group_same k c i))) k)
does_view k Hf c = (λ i. and_then (tell (map power_off (members k (group_same k c i))) k) (λ j. note (waypoints_emptied (group_same k c i) j.desk) j))
does_view k Hl c = (λ i. send (not (all_rest k (members k (group_same k c i))) || waits k (group_same k c i)) (group_same k c i) (values_view c.parameters i) k)
does_view k Hp c = refl
does_view k Hw c = (λ i. wait_for (group_still (group_same k c i)) k)
does_view k Ab c = refl
does_view k Wt c = (λ i. beats (whole_value (given_view c i)) k)
does_view k Tb c = refl
does_view k Te c = refl

unless_same : (k : Core) (m : Mnemonic) (c : Command) (b : Bool) → unless_asking b k m (view c) ≡ unless_asking b k m c
unless_same k m c true = refl
unless_same k m c false = does_view k m c

performed_view : (k : Core) (o : Option Mnemonic) (c : Command) → performed k o (view c) ≡ performed k o c
performed_view k None c = refl
performed_view k (Some m) c = ap (λ b. unless_asking b k m (view c)) (asking_same m c) ∙ unless_same k m c (asking m c)

pub perform_view : (k : Core) (c : Command) → perform k (view c) ≡ perform k c
perform_view k c = performed_view k c.mnemonic c

-- ---- what it answers

answer_view : (k : Core) (m : Mnemonic) (c : Command) → answer_text k m (view c) ≡ answer_text k m c
answer_view k Va c = (λ i. setting_text (pos (settings k (axis_same c i)).own.velocity))
answer_view k Ac c = (λ i. setting_text (pos (settings k (axis_same c i)).own.acceleration))
answer_view k Ag c = (λ i. setting_text (pos (settings k (axis_same c i)).own.deceleration))
answer_view k Sl c = (λ i. setting_text (settings k (axis_same c i)).left)
answer_view k Sr c = (λ i. setting_text (settings k (axis_same c i)).right)
answer_view k Fp c = (λ i. whole_text (settings k (axis_same c i)).digits)
answer_view k Mo c = (λ i. flag_text (powered k (axis_same c i)))
answer_view k Mf c = (λ i. flag_text (powered k (axis_same c i)))
answer_view k Pa c = (λ i. position_told k (axis_same c i))
answer_view k Pr c = refl
answer_view k St c = refl
answer_view k Dh c = refl
answer_view k Ws c = refl
answer_view k Id c = (λ i. name_text (settings k (axis_same c i)))
answer_view k Tp c = (λ i. position_told k (axis_same c i))
answer_view k Dp c = (λ i. place_text k (axis_same c i) (axis_at k (axis_same c i)).target)
answer_view k Md c = (λ i. flag_text (resting k (axis_same c i)))
answer_view k Hn c = (λ i. list_text (map whole_text (members k (group_same k c i))))
answer_view k Hx c = refl
answer_view k Hv c = (λ i. setting_text (pos (group k (group_same k c i)).profile.velocity))
answer_view k Ha c = (λ i. setting_text (pos (group k (group_same k c i)).profile.acceleration))
answer_view k Hd c = (λ i. setting_text (pos (group k (group_same k c i)).profile.deceleration))
answer_view k Ho c = refl
answer_view k Hf c = refl
answer_view k Hl c = refl
answer_view k Hp c = (λ i. list_text (map (position_told k) (members k (group_same k c i))))
answer_view k Hw c = refl
answer_view k Ab c = refl
answer_view k Wt c = refl
answer_view k Tb c = refl
answer_view k Te c = refl

-- ---- what is seen of a step, and the core after it

-- a world in which no error waits
abbrev pub quiet_world : Core → World
quiet_world k = record { core = k; errors = [] }

abbrev seen_of : Option Mnemonic → Outcome → Seen
seen_of o (refused e) = faulted e.fault
seen_of o (replied bytes) = seen_reply (tells_errors o) bytes

-- what is seen does not tell the errors
seen_texts : (a b : Bool) (x x' y y' z z' : List ℕ) → z ≡ z' → seen_reply (a || (b || false)) (text_if b x ++ (text_if a y ++ z)) ≡ seen_reply (a || (b || false)) (text_if b x' ++ (text_if a y' ++ z'))
seen_texts true b x x' y y' z z' e = refl
seen_texts false true x x' y y' z z' e = refl
seen_texts false false x x' y y' z z' e = ap answered e

seen_accepted : (w : World) (o : Option Mnemonic) (c : Command) → seen_of o (accepted w o c).outcome ≡ seen_of o (accepted (quiet_world w.core) o (view c)).outcome
seen_accepted w None c = refl
seen_accepted w (Some m) c =
    seen_texts (is m Tb) (is m Te) (code_text w.errors) (code_text []) (message_text w.errors) (message_text []) _ _
    (λ i. text_if ((sym (asking_same m c) i || among telling m) && not (among error_commands m)) (sym (answer_view w.core m c) i))

core_accepted : (w : World) (o : Option Mnemonic) (c : Command) → (accepted w o c).world.core ≡ (accepted (quiet_world w.core) o (view c)).world.core
core_accepted w None c = refl
core_accepted w (Some m) c = ap (λ t. t.core) (sym (perform_view w.core c))

seen_settled : (w : World) (c : Command) (r : Option ErrorEntry) → seen c (settled w c r).outcome ≡ seen (view c) (settled (quiet_world w.core) (view c) (option_map entry_view r)).outcome
seen_settled w c (Some e) = refl
seen_settled w c None = seen_accepted w c.mnemonic c

core_settled : (w : World) (c : Command) (r : Option ErrorEntry) → (settled w c r).world.core ≡ (settled (quiet_world w.core) (view c) (option_map entry_view r)).world.core
core_settled w c (Some e) = refl
core_settled w c None = core_accepted w c.mnemonic c

refused_view : (k : Core) (c : Command) → refused_by k (view c) ≡ option_map entry_view (refused_by k c)
refused_view k c = ap refusal (tests_view k c) ∙ refusal_view (tests k c)

-- what is seen of a command, and the core after it, where no error waits
abbrev pub seen_now : Core → Command → Seen
seen_now k c = seen c (step (quiet_world k) c).outcome

abbrev pub next : Core → Command → Core
next k c = (step (quiet_world k) c).world.core

-- it is the same with errors, and with columns
pub seen_step : (w : World) (c : Command) → seen c (step w c).outcome ≡ seen_now w.core (view c)
seen_step w c =
    seen_settled w c (refused_by w.core c) ∙ ap (λ r. seen (view c) (settled (quiet_world w.core) (view c) r).outcome) (sym (refused_view w.core c))

pub core_step : (w : World) (c : Command) → (step w c).world.core ≡ next w.core (view c)
core_step w c =
    core_settled w c (refused_by w.core c) ∙ ap (λ r. (settled (quiet_world w.core) (view c) r).world.core) (sym (refused_view w.core c))

-- ---- refusals

abbrev pub faulty : Seen → Bool
faulty (faulted f) = true
faulty (answered bytes) = false
faulty errors_told = false

reply_fine : (b : Bool) (bytes : List ℕ) → faulty (seen_reply b bytes) ≡ false
reply_fine true bytes = refl
reply_fine false bytes = refl

-- a refusal is seen
pub faulty_seen : (c : Command) (o : Outcome) → turned_down o ≡ faulty (seen c o)
faulty_seen c (refused e) = refl
faulty_seen c (replied bytes) = sym (reply_fine (tells_errors c.mnemonic) bytes)

accepted_fine : (w : World) (o : Option Mnemonic) (c : Command) → faulty (seen_of o (accepted w o c).outcome) ≡ false
accepted_fine w None c = refl
accepted_fine w (Some m) c = reply_fine (among error_commands m) (replies w m c)

settled_kept : (w : World) (c : Command) (r : Option ErrorEntry) → faulty (seen c (settled w c r).outcome) ≡ true → (settled w c r).world.core ≡ w.core
settled_kept w c (Some e) h = refl
settled_kept w c None h = absurd (true≢false (sym h ∙ accepted_fine w c.mnemonic c))

-- a refused command leaves the core
pub next_kept : (k : Core) (c : Command) → faulty (seen_now k c) ≡ true → next k c ≡ k
next_kept k c h = settled_kept (quiet_world k) c (refused_by k c) h
