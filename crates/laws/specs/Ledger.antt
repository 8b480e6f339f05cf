-- The ledger: what the setup records and the commands say, each command with whether it was refused. It is fed nothing of the desk and
-- nothing of the drive. Assumes nothing.
use Rattle.std.specs.Prelude.{ℕ, suc, ◌/◌, Bool, true, false, cond, List, [], ◌∷◌, map, length, ℤ, pos, Some, None, Option, ◌==◌, unsigned_abs}
use Rattle.drive.specs.declared.profile.Profile.{Profile}
use Rattle.setup.specs.declared.record.SetupRecord.{SetupRecord}
use Rattle.command.specs.declared.mnemonic.Mnemonic.{Mnemonic}
use Rattle.command.specs.declared.mnemonic.Mnemonic.TheVariants.{Va, Ac, Ag, Sl, Sr, Fp, Mo, Mf, Pa, Pr, St, Dh, Ws, Id, Tp, Dp, Md, Hn, Hx, Hv, Ha, Hd, Ho, Hf, Hl, Hp, Hw, Ab, Wt, Tb, Te}
use Rattle.command.specs.Commands.{Command, prefix_number}
use Rattle.groups.specs.Groups.{has}
use Rattle.groups.specs.Profiles.{no_profile, velocity_in, acceleration_in, deceleration_in, least}
use Rattle.desk.specs.Tables.{row_or}
use Rattle.rules.specs.Refusals.{asking, number_or, axis_named, given, units}

-- Of each axis: its limits, its own figures, the group that it is in (0: none), and how often it was taken into a group and freed
-- again. Of each group: its members, in the order named, and its figures. Axes and groups are numbered from 1.
pub record Ledger : Type 0 where
  pub groups : ℕ
  pub left : ℕ → ℤ
  pub right : ℕ → ℤ
  pub own : ℕ → Profile
  pub group : ℕ → ℕ
  pub members : ℕ → List ℕ
  pub shared : ℕ → Profile
  pub taken : ℕ → ℕ
  pub freed : ℕ → ℕ

-- ---- the beginning

-- the maxima of a record, as figures
abbrev pub greatest : SetupRecord → Profile
greatest r = record { velocity = r.max_velocity; acceleration = r.max_acceleration; deceleration = r.max_acceleration }

-- the maxima of the axis n
abbrev pub greatest_of : List SetupRecord → ℕ → Profile
greatest_of rs n = row_or no_profile n (map greatest rs)

-- each axis has its record's limits, its maxima as own figures and no group, and was taken and freed 0 times; half as many groups as axes
abbrev pub first_ledger : List SetupRecord → Ledger
first_ledger rs = record {
  groups = length rs / 2;
  left = λ n. row_or (pos 0) n (map (λ r. r.left) rs);
  right = λ n. row_or (pos 0) n (map (λ r. r.right) rs);
  own = greatest_of rs;
  group = λ n. 0;
  members = λ g. [];
  shared = λ g. no_profile;
  taken = λ n. 0;
  freed = λ n. 0;
}

-- ---- entries

-- x at n, and elsewhere what was
abbrev pub put : {X : Type 0} → ℕ → X → (ℕ → X) → ℕ → X
put n x f k = cond (k == n) x (f k)

-- another own profile of the axis n, other limits, another profile of the group g
abbrev pub own_entered : ℕ → Profile → Ledger → Ledger
own_entered n p l = record { groups = l.groups; left = l.left; right = l.right; own = put n p l.own; group = l.group; members = l.members; shared = l.shared; taken = l.taken; freed = l.freed }

abbrev pub left_entered : ℕ → ℤ → Ledger → Ledger
left_entered n z l = record { groups = l.groups; left = put n z l.left; right = l.right; own = l.own; group = l.group; members = l.members; shared = l.shared; taken = l.taken; freed = l.freed }

abbrev pub right_entered : ℕ → ℤ → Ledger → Ledger
right_entered n z l = record { groups = l.groups; left = l.left; right = put n z l.right; own = l.own; group = l.group; members = l.members; shared = l.shared; taken = l.taken; freed = l.freed }

abbrev pub shared_entered : ℕ → Profile → Ledger → Ledger
shared_entered g p l = record { groups = l.groups; left = l.left; right = l.right; own = l.own; group = l.group; members = l.members; shared = put g p l.shared; taken = l.taken; freed = l.freed }

-- the smallest figures of the axes listed; of none, no figures
abbrev pub smallest : (ℕ → Profile) → List ℕ → Profile
smallest own [] = no_profile
smallest own (n ∷ ns) = least (own n) (map own ns)

-- the axes ns are taken into the group g, each once more; its first figures are the smallest of their own
abbrev pub taken_in : ℕ → List ℕ → Ledger → Ledger
taken_in g ns l = record {
  groups = l.groups;
  left = l.left;
  right = l.right;
  own = l.own;
  group = λ n. cond (has n ns) g (l.group n);
  members = put g ns l.members;
  shared = put g (smallest l.own ns) l.shared;
  taken = λ n. cond (has n ns) (suc (l.taken n)) (l.taken n);
  freed = l.freed;
}

-- all axes of the group g leave it, each freed once more; a group without members has no figures
abbrev pub let_go : ℕ → Ledger → Ledger
let_go g l = record {
  groups = l.groups;
  left = l.left;
  right = l.right;
  own = l.own;
  group = λ n. cond (l.group n == g) 0 (l.group n);
  members = put g [] l.members;
  shared = put g no_profile l.shared;
  taken = l.taken;
  freed = λ n. cond (l.group n == g) (suc (l.freed n)) (l.freed n);
}

-- ---- what is entered for a command

-- the group that a group command names: its prefix; where there is one group, it may be left out
abbrev pub group_meant : Ledger → Command → ℕ
group_meant l c = number_or (cond (l.groups == 1) 1 0) (prefix_number c)

-- the figure that it gives
abbrev pub figure : Command → ℕ
figure c = unsigned_abs (given c)

-- a command that was accepted and does not ask
abbrev pub enter : Ledger → Mnemonic → Command → Ledger
enter l Va c = own_entered (axis_named c) (velocity_in (figure c) (l.own (axis_named c))) l
enter l Ac c = own_entered (axis_named c) (acceleration_in (figure c) (l.own (axis_named c))) l
enter l Ag c = own_entered (axis_named c) (deceleration_in (figure c) (l.own (axis_named c))) l
enter l Sl c = left_entered (axis_named c) (given c) l
enter l Sr c = right_entered (axis_named c) (given c) l
enter l Hv c = shared_entered (group_meant l c) (velocity_in (figure c) (l.shared (group_meant l c))) l
enter l Ha c = shared_entered (group_meant l c) (acceleration_in (figure c) (l.shared (group_meant l c))) l
enter l Hd c = shared_entered (group_meant l c) (deceleration_in (figure c) (l.shared (group_meant l c))) l
enter l Hn c = taken_in (group_meant l c) (map units c.parameters) l
enter l Hx c = let_go (group_meant l c) l
enter l Fp c = l
enter l Mo c = l
enter l Mf c = l
enter l Pa c = l
enter l Pr c = l
enter l St c = l
enter l Dh c = l
enter l Ws c = l
enter l Id c = l
enter l Tp c = l
enter l Dp c = l
enter l Md c = l
enter l Ho c = l
enter l Hf c = l
enter l Hl c = l
enter l Hp c = l
enter l Hw c = l
enter l Ab c = l
enter l Wt c = l
enter l Tb c = l
enter l Te c = l

-- asking leaves the ledger alone
abbrev pub enter_unless : Bool → Ledger → Mnemonic → Command → Ledger
enter_unless true l m c = l
enter_unless false l m c = enter l m c

abbrev pub enter_known : Ledger → Option Mnemonic → Command → Ledger
enter_known l None c = l
enter_known l (Some m) c = enter_unless (asking m c) l m c

-- a command, with whether it was refused: a refusal leaves the ledger alone
abbrev pub feed : Ledger → Command → Bool → Ledger
feed l c true = l
feed l c false = enter_known l c.mnemonic c

-- THE ledger after commands, each with whether it was refused
abbrev pub ledger : Ledger → List (Command × Bool) → Ledger
ledger l [] = l
ledger l (e ∷ more) = ledger (feed l e.0 e.1) more

-- ---- what it tells

-- the figures that a start of the axis n is to carry: its group's, outside a group its own
abbrev pub due : Ledger → ℕ → Profile
due l n = cond (l.group n == 0) (l.own n) (l.shared (l.group n))

-- 1 while the axis n is in a group, else 0
abbrev pub in_one : Ledger → ℕ → ℕ
in_one l n = cond (l.group n == 0) 0 1
