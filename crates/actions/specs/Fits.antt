-- What an accepted command may be relied on for: whom it names is there, and what it says fits. Assumes nothing.
use Rattle.std.specs.Prelude.{◌≡◌, ℕ, ◌-◌, ◌^◌, ◌≤◌, Bool, true, cond, not, ◌||◌, List, map, length, ℤ, pos, negsuc, ◌+ℤ◌, ◌≤ℤ◌, nat_le, unsigned_abs}
use Rattle.command.specs.declared.mnemonic.Mnemonic.{Mnemonic}
use Rattle.command.specs.declared.mnemonic.Mnemonic.TheVariants.{Va, Ac, Ag, Sl, Sr, Fp, Mo, Mf, Pa, Pr, St, Dh, Ws, Id, Tp, Dp, Md, Hn, Hx, Hv, Ha, Hd, Ho, Hf, Hl, Hp, Hw, Ab, Wt, Tb, Te}
use Rattle.desk.specs.declared.axis_settings.AxisSettings.{AxisSettings}
use Rattle.command.specs.Commands.{Command, capped}
use Rattle.rules.specs.World.{Core, members, axis_at}
use Rattle.rules.specs.Refusals.{axis_named, group_named, value, values, units, given, whole_value}
use Rattle.rules.specs.Deeds.{all_rest, waits, send}
use Rattle.actions.specs.Narrow.{fitting, as_position}

-- the settings of an axis fit 32 bits
pub record Wide (a : AxisSettings) : Type 0 where
  pub velocity : a.max_velocity ≤ 2 ^ 32 - 1
  pub acceleration : a.max_acceleration ≤ 2 ^ 32 - 1
  pub left : negsuc (2 ^ 31 - 1) ≤ℤ a.left
  pub right : a.right ≤ℤ pos (2 ^ 31 - 1)

-- a waypoint has to wait: a member moves, or others wait
abbrev pub has_to_wait : ℕ → Core → Bool
has_to_wait g k = not (all_rest k (members k g)) || waits k g

-- one of 12 positions at most is queued or started
abbrev pub sent : ℕ → List ℤ → Core → Core
sent g zs k = cond (nat_le (length zs) 12) (send (has_to_wait g k) g zs k).core k

-- the number of the axis, or of the group, is the one said
abbrev pub AxisFits : Command → Type 0
AxisFits c = capped (axis_named c) ≡ axis_named c

abbrev pub GroupFits : Core → Command → Type 0
GroupFits k c = capped (group_named k c) ≡ group_named k c

-- a number, or a position, fits 32 bits
abbrev pub FigureFits : ℕ → Type 0
FigureFits n = fitting (2 ^ 32 - 1) n ≡ n

abbrev pub PositionFits : ℤ → Type 0
PositionFits z = as_position z ≡ z

-- THE table: what is relied on, by the command
abbrev pub Fits : Core → Mnemonic → Command → Type 0
Fits k Va c = AxisFits c × FigureFits (unsigned_abs (given c))
Fits k Ac c = AxisFits c × FigureFits (unsigned_abs (given c))
Fits k Ag c = AxisFits c × FigureFits (unsigned_abs (given c))
Fits k Sl c = AxisFits c × PositionFits (given c)
Fits k Sr c = AxisFits c × PositionFits (given c)
Fits k Fp c = AxisFits c × (fitting (2 ^ 8 - 1) (whole_value (given c)) ≡ whole_value (given c))
Fits k Mo c = AxisFits c
Fits k Mf c = AxisFits c
Fits k Pa c = AxisFits c × PositionFits (given c)
Fits k Pr c = AxisFits c × PositionFits ((axis_at k (axis_named c)).target +ℤ given c)
Fits k St c = AxisFits c
Fits k Dh c = AxisFits c × PositionFits (given c)
Fits k Ws c = AxisFits c
Fits k Id c = Unit {0}
Fits k Tp c = Unit {0}
Fits k Dp c = Unit {0}
Fits k Md c = Unit {0}
Fits k Hn c = GroupFits k c × (map (λ f. fitting (2 ^ 8 - 1) (units f)) c.parameters ≡ map units c.parameters)
Fits k Hx c = GroupFits k c
Fits k Hv c = GroupFits k c × FigureFits (unsigned_abs (given c))
Fits k Ha c = GroupFits k c × FigureFits (unsigned_abs (given c))
Fits k Hd c = GroupFits k c × FigureFits (unsigned_abs (given c))
Fits k Ho c = GroupFits k c
Fits k Hf c = GroupFits k c
Fits k Hl c = GroupFits k c × (map (λ f. as_position (value f)) c.parameters ≡ values c) × (nat_le (length (values c)) 12 ≡ true)
Fits k Hp c = Unit {0}
Fits k Hw c = GroupFits k c
Fits k Ab c = Unit {0}
Fits k Wt c = FigureFits (whole_value (given c))
Fits k Tb c = Unit {0}
Fits k Te c = Unit {0}
