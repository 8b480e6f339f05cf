-- What an accepted command answers. Assumes nothing.
use Rattle.std.specs.Prelude.{ℕ, Bool, true, false, List, [], ◌∷◌, ◌++◌, map, ℤ, pos, Some, None, Option}
use Rattle.number.specs.Texts.{whole_text, setting_text, position_text, list_text, line_end}
use Rattle.command.specs.declared.mnemonic.Mnemonic.{Mnemonic}
use Rattle.command.specs.declared.mnemonic.Mnemonic.TheVariants.{Va, Ac, Ag, Sl, Sr, Fp, Mo, Mf, Pa, Pr, St, Dh, Ws, Id, Tp, Dp, Md, Hn, Hx, Hv, Ha, Hd, Ho, Hf, Hl, Hp, Hw, Ab, Wt, Tb, Te}
use Rattle.command.specs.Commands.{Command}
use Rattle.queue.specs.declared.error_entry.ErrorEntry.{ErrorEntry}
use Rattle.queue.specs.declared.fault.Fault.{Fault}
use Rattle.queue.specs.Faults.{told_code, told_message}
use Rattle.desk.specs.Axes.{name_text}
use Rattle.rules.specs.World.{Core, settings, group, members, axis_at, resting, powered}
use Rattle.rules.specs.Refusals.{axis_named, group_named}

-- a reply ends with CR and LF
abbrev pub reply_of : List ℕ → List ℕ
reply_of text = text ++ line_end

-- 1 for yes, 0 for no
abbrev pub flag_text : Bool → List ℕ
flag_text true = whole_text 1
flag_text false = whole_text 0

-- a position of the axis n, at its display digits
abbrev pub place_text : Core → ℕ → ℤ → List ℕ
place_text k n z = position_text (settings k n).digits z

-- where the axis n stands
abbrev pub position_told : Core → ℕ → List ℕ
position_told k n = place_text k n (axis_at k n).position

-- what a command answers that asks, or that only asks
abbrev pub answer_text : Core → Mnemonic → Command → List ℕ
answer_text k Va c = setting_text (pos (settings k (axis_named c)).own.velocity)
answer_text k Ac c = setting_text (pos (settings k (axis_named c)).own.acceleration)
answer_text k Ag c = setting_text (pos (settings k (axis_named c)).own.deceleration)
answer_text k Sl c = setting_text (settings k (axis_named c)).left
answer_text k Sr c = setting_text (settings k (axis_named c)).right
answer_text k Fp c = whole_text (settings k (axis_named c)).digits
answer_text k Mo c = flag_text (powered k (axis_named c))
answer_text k Mf c = flag_text (powered k (axis_named c))
answer_text k Pa c = position_told k (axis_named c)
answer_text k Pr c = []
answer_text k St c = []
answer_text k Dh c = []
answer_text k Ws c = []
answer_text k Id c = name_text (settings k (axis_named c))
answer_text k Tp c = position_told k (axis_named c)
answer_text k Dp c = place_text k (axis_named c) (axis_at k (axis_named c)).target
answer_text k Md c = flag_text (resting k (axis_named c))
answer_text k Hn c = list_text (map whole_text (members k (group_named k c)))
answer_text k Hx c = []
answer_text k Hv c = setting_text (pos (group k (group_named k c)).profile.velocity)
answer_text k Ha c = setting_text (pos (group k (group_named k c)).profile.acceleration)
answer_text k Hd c = setting_text (pos (group k (group_named k c)).profile.deceleration)
answer_text k Ho c = []
answer_text k Hf c = []
answer_text k Hl c = []
answer_text k Hp c = list_text (map (position_told k) (members k (group_named k c)))
answer_text k Hw c = []
answer_text k Ab c = []
answer_text k Wt c = []
answer_text k Tb c = []
answer_text k Te c = []

-- commands that answer without a question mark
abbrev pub telling : List Mnemonic
telling = Id ∷ Tp ∷ Dp ∷ Md ∷ Hp ∷ []

-- the oldest error's fault, if one waits
abbrev pub oldest : List ErrorEntry → Option Fault
oldest [] = None
oldest (e ∷ es) = Some e.fault

-- TE tells its code, TB its code, a comma, a blank and its message
abbrev pub code_text : List ErrorEntry → List ℕ
code_text es = whole_text (told_code (oldest es))

abbrev pub message_text : List ErrorEntry → List ℕ
message_text es = code_text es ++ (44 ∷ 32 ∷ told_message (oldest es))
