-- The laws of every run of the console, refused calls and commands among it. Axes and groups are numbered from 1; where a law speaks of
-- an axis n that is not there, what stands for it rests at 0 between the limits 0 and 0. Assumes nothing.
use Rattle.std.specs.Prelude.{◌≡◌, ℕ, suc, ◌+◌, ◌≤◌, Bool, true, false, cond, T, List, [], ◌∷◌, ◌++◌, ℤ, ◌≤ℤ◌, Ok, Err, Result, ◌==◌}
use Rattle.std.specs.List.{AllByRecursion}
use Rattle.drive.specs.declared.profile.Profile.{Profile}
use Rattle.drive.specs.Model.{Axis, Sound}
use Rattle.drive.specs.Calls.{Told, power_on, power_off, start, stop, set_position, tick, replay}
use Rattle.setup.specs.declared.record.SetupRecord.{SetupRecord}
use Rattle.setup.specs.Setups.{decoded}
use Rattle.command.specs.Commands.{Command, commands_of}
use Rattle.queue.specs.declared.refusal.Refusal.{Refusal}
use Rattle.groups.specs.Groups.{has}
use Rattle.rules.specs.World.{Core, World, settings, group, members, axis_at}
use Rattle.rules.specs.Deeds.{beats, wait_for}
use Rattle.rules.specs.Steps.{Outcome, refused, replied, step, run_commands}
use Rattle.rules.specs.Calls.{too_long, line_taken, open_call}
use Rattle.rules.specs.Runs.{Call, line_sent, ticks_made, error_asked, called, run, moment}
use Rattle.laws.specs.Ledger.{Ledger, greatest_of, first_ledger, ledger, smallest, due, in_one}

-- the world after the calls xs and the commands cs of the next line
abbrev pub state : World → List Call → List Command → World
state w xs cs = run_commands (run w xs) cs

-- ---- nothing happens to the drive but what it is told

-- After a command, and after beats, the drive's axes are what the axes before become by what was told, in order.
pub record AllTold (w : World) (xs : List Call) (cs : List Command) : Type 0 where
  pub command : (c : Command) → (step (state w xs cs) c).world.core.drive ≡ replay (step (state w xs cs) c).told (state w xs cs).core.drive
  pub beating : (k : ℕ) → (moment w xs cs k).drive ≡ replay (beats k (state w xs cs).core).told (state w xs cs).core.drive

-- ---- limits

-- position and target of an axis lie between left and right, both counted
pub record Bounded (left right : ℤ) (a : Axis) : Type 0 where
  pub left_position : left ≤ℤ a.position
  pub position_right : a.position ≤ℤ right
  pub left_target : left ≤ℤ a.target
  pub target_right : a.target ≤ℤ right

-- At every moment position and target of every axis lie within its limits of then.
abbrev pub KeepsLimits : World → Type 0
KeepsLimits w = (xs : List Call) (cs : List Command) (k n : ℕ) → Bounded (settings (moment w xs cs k) n).left (settings (moment w xs cs k) n).right (axis_at (moment w xs cs k) n)

-- ---- refusals

abbrev pub was_refused : Outcome → Bool
was_refused (refused e) = true
was_refused (replied bytes) = false

-- A command that is refused tells the drive nothing and changes nothing but the errors that wait.
pub record Untouched (w : World) (c : Command) : Type 0 where
  pub nothing_told : (step w c).told ≡ []
  pub core_kept : (step w c).world.core ≡ w.core

abbrev pub RefusalsKeep : World → Type 0
RefusalsKeep w = (xs : List Call) (cs : List Command) (c : Command) → was_refused (step (state w xs cs) c).outcome ≡ true → Untouched (state w xs cs) c

-- ---- waypoints

-- At every moment no waypoint waits in a group without members.
abbrev pub NoneLeftWaiting : World → Type 0
NoneLeftWaiting w = (xs : List Call) (cs : List Command) (k g : ℕ) → members (moment w xs cs k) g ≡ [] → (group (moment w xs cs k) g).waypoints ≡ []

-- ---- starts

-- no figure of p is above that of q
pub record AtMost (p q : Profile) : Type 0 where
  pub velocity : p.velocity ≤ q.velocity
  pub acceleration : p.acceleration ≤ q.acceleration
  pub deceleration : p.deceleration ≤ q.deceleration

-- what is told, if it is a start of an axis with a profile, is as P says
abbrev pub StartIs : (ℕ → Profile → Type 0) → Told → Type 0
StartIs P (power_on n) = Unit {0}
StartIs P (power_off n) = Unit {0}
StartIs P (start n z q) = P n q
StartIs P (stop n) = Unit {0}
StartIs P (set_position n z) = Unit {0}
StartIs P tick = Unit {0}

-- every start that the next command tells, and every start that beats tell, is as P says
pub record StartsAre (P : ℕ → Profile → Type 0) (w : World) (xs : List Call) (cs : List Command) : Type 0 where
  pub command : (c : Command) → AllByRecursion (StartIs P) (step (state w xs cs) c).told
  pub beating : (k : ℕ) → AllByRecursion (StartIs P) (beats k (state w xs cs).core).told

-- No start asks more than the maxima of its axis's record.
abbrev pub NeverOver : List SetupRecord → World → Type 0
NeverOver rs w = (xs : List Call) (cs : List Command) → StartsAre (λ n q. AtMost q (greatest_of rs n)) w xs cs

-- ---- what the ledger is fed: each command that was run, and whether it was refused

-- of commands in turn
abbrev pub protocol : World → List Command → List (Command × Bool)
protocol w [] = []
protocol w (c ∷ cs) = (c, was_refused (step w c).outcome) ∷ protocol (step w c).world cs

-- of a line: too long, none of its commands is run
abbrev pub line_protocol : World → List ℕ → Bool → List (Command × Bool)
line_protocol w line true = []
line_protocol w line false = protocol w (commands_of line)

abbrev pub taken_protocol : World → Result (List ℕ × ℕ) Refusal → List (Command × Bool)
taken_protocol w (Err r) = []
taken_protocol w (Ok l) = line_protocol w l.0 (too_long l.0)

-- of a call
abbrev pub call_protocol : World → Call → List (Command × Bool)
call_protocol w (line_sent bytes room) = taken_protocol w (line_taken w bytes room)
call_protocol w (ticks_made n) = []
call_protocol w (error_asked n) = []

-- of calls
abbrev pub calls_protocol : World → List Call → List (Command × Bool)
calls_protocol w [] = []
calls_protocol w (x ∷ xs) = call_protocol w x ++ calls_protocol (called w x) xs

-- the ledger at a moment: beats leave it alone
abbrev pub ledger_at : List SetupRecord → World → List Call → List Command → Ledger
ledger_at rs w xs cs = ledger (first_ledger rs) (calls_protocol w xs ++ protocol (run w xs) cs)

-- ---- desk, drive and ledger

-- The desk has the ledger's limits, own profiles, members and group profiles.
pub record Agree (l : Ledger) (k : Core) : Type 0 where
  pub left : (n : ℕ) → (settings k n).left ≡ l.left n
  pub right : (n : ℕ) → (settings k n).right ≡ l.right n
  pub own : (n : ℕ) → (settings k n).own ≡ l.own n
  pub members : (g : ℕ) → members k g ≡ l.members g
  pub shared : (g : ℕ) → (group k g).profile ≡ l.shared g

-- Freed as often as taken; while in a group, once less.
abbrev pub Balanced : Ledger → Type 0
Balanced l = (n : ℕ) → l.taken n ≡ l.freed n + in_one l n

-- An axis is listed among the members of the group that it is in, and of no other: in one group at most.
abbrev pub InOneAtMost : Ledger → Type 0
InOneAtMost l = (g n : ℕ) → has n (l.members (suc g)) ≡ (l.group n == suc g)

-- the profile after what was told, of the axis n that had the profile q: that of the last start of the axis, else q
abbrev pub last_profile : ℕ → List Told → Profile → Profile
last_profile n [] q = q
last_profile n (power_on m ∷ more) q = last_profile n more q
last_profile n (power_off m ∷ more) q = last_profile n more q
last_profile n (start m z p ∷ more) q = last_profile n more (cond (n == m) p q)
last_profile n (stop m ∷ more) q = last_profile n more q
last_profile n (set_position m z ∷ more) q = last_profile n more q
last_profile n (tick ∷ more) q = last_profile n more q

pub record Accounted (rs : List SetupRecord) (w : World) (xs : List Call) (cs : List Command) : Type 0 where
  -- at every moment desk and ledger agree, and each axis is within the ledger's limits
  pub agree : (k : ℕ) → Agree (ledger_at rs w xs cs) (moment w xs cs k)
  pub bounded : (k n : ℕ) → Bounded ((ledger_at rs w xs cs).left n) ((ledger_at rs w xs cs).right n) (axis_at (moment w xs cs k) n)
  pub balanced : Balanced (ledger_at rs w xs cs)
  pub in_one_at_most : InOneAtMost (ledger_at rs w xs cs)
  -- every start carries what is due by the ledger of then
  pub carried : StartsAre (λ n q. q ≡ due (ledger_at rs w xs cs) n) w xs cs
  -- the profile of an axis stays until its next start
  pub stays : (c : Command) (n : ℕ) → (axis_at (step (state w xs cs) c).world.core n).profile ≡ last_profile n (step (state w xs cs) c).told (axis_at (state w xs cs).core n).profile
  pub stays_beating : (k n : ℕ) → (axis_at (moment w xs cs k) n).profile ≡ last_profile n (beats k (state w xs cs).core).told (axis_at (state w xs cs).core n).profile

-- ---- words that ledger, rules and laws share

-- p has the smallest figures of the axes ns, by own: none is above that of any of them, and each is the figure of one of them
pub record SmallestOf (own : ℕ → Profile) (ns : List ℕ) (p : Profile) : Type 0 where
  pub below : (n : ℕ) → T (has n ns) → AtMost p (own n)
  pub velocity_of : (n : ℕ) × (T (has n ns) × (p.velocity ≡ (own n).velocity))
  pub acceleration_of : (n : ℕ) × (T (has n ns) × (p.acceleration ≡ (own n).acceleration))
  pub deceleration_of : (n : ℕ) × (T (has n ns) × (p.deceleration ≡ (own n).deceleration))

pub record Words : Type 0 where
  -- being listed is standing somewhere in the list
  pub listed : (n : ℕ) (ms ns : List ℕ) → T (has n (ms ++ n ∷ ns))
  pub only_listed : (n : ℕ) (ns : List ℕ) → T (has n ns) → (before : List ℕ) × ((after : List ℕ) × (ns ≡ before ++ n ∷ after))
  -- a wait is so many beats, 60,000 at most: the moments inside it are moments after beats
  pub waits_are_beats : (done : Core → Bool) (k : Core) → (n : ℕ) × ((n ≤ 60000) × (wait_for done k ≡ beats n k))
  -- the smallest figures of some axes
  pub smallest_is : (own : ℕ → Profile) (n : ℕ) (ns : List ℕ) → SmallestOf own (n ∷ ns) (smallest own (n ∷ ns))

-- ---- all of it

-- a world that the opening made from the records rs
pub record Lawful (rs : List SetupRecord) (w : World) : Type 0 where
  pub told : (xs : List Call) (cs : List Command) → AllTold w xs cs
  pub limits : KeepsLimits w
  pub refusals : RefusalsKeep w
  pub none_left_waiting : NoneLeftWaiting w
  pub never_over : NeverOver rs w
  pub accounted : (xs : List Call) (cs : List Command) → Accounted rs w xs cs

-- Whatever the console was before: once an opening is accepted over a drive that keeps the laws of drives, every run is lawful.
abbrev pub EveryRunLawful : Type 0
EveryRunLawful = (w : World) (bytes : List ℕ) (rs : List SetupRecord) → Sound w.core.drive → decoded bytes ≡ Ok rs → (open_call w bytes).0.number ≡ 0 → Lawful rs (open_call w bytes).1
