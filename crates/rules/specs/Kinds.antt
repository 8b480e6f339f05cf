-- What kind of command each is. Assumes nothing.
use Rattle.std.specs.Prelude.{Bool, false, ◌&&◌, ◌||◌, List, [], ◌∷◌, ◌==◌}
use Rattle.command.specs.declared.mnemonic.Mnemonic.{Mnemonic}
use Rattle.command.specs.declared.mnemonic.Mnemonic.TheVariants.{Va, Ac, Ag, Sl, Sr, Fp, Mo, Mf, Pa, Pr, St, Dh, Id, Tp, Dp, Md, Hn, Hx, Hv, Ha, Hd, Ho, Hf, Hl, Hp, Hw, Wt, Tb, Te}
use Rattle.command.specs.Mnemonics.{first, second}

-- two mnemonics have the same letters
abbrev pub is : Mnemonic → Mnemonic → Bool
is m n = first m == first n && second m == second n

-- the mnemonic is one of these
abbrev pub among : List Mnemonic → Mnemonic → Bool
among [] m = false
among (n ∷ ns) m = is m n || among ns m

-- commands whose prefix is an axis; WS may go without
abbrev pub axis_commands : List Mnemonic
axis_commands = Va ∷ Ac ∷ Ag ∷ Sl ∷ Sr ∷ Fp ∷ Mo ∷ Mf ∷ Pa ∷ Pr ∷ St ∷ Dh ∷ Id ∷ Tp ∷ Dp ∷ Md ∷ []

-- commands whose prefix is a group
abbrev pub group_commands : List Mnemonic
group_commands = Hn ∷ Hx ∷ Hv ∷ Ha ∷ Hd ∷ Ho ∷ Hf ∷ Hl ∷ Hp ∷ Hw ∷ []

-- commands that offer a question mark
abbrev pub askable : List Mnemonic
askable = Va ∷ Ac ∷ Ag ∷ Sl ∷ Sr ∷ Fp ∷ Mo ∷ Mf ∷ Pa ∷ Id ∷ Tp ∷ Dp ∷ Md ∷ Hn ∷ Hv ∷ Ha ∷ Hd ∷ Hp ∷ Tb ∷ Te ∷ []

-- commands that take one parameter
abbrev pub with_one : List Mnemonic
with_one = Va ∷ Ac ∷ Ag ∷ Sl ∷ Sr ∷ Fp ∷ Pa ∷ Pr ∷ Dh ∷ Hv ∷ Ha ∷ Hd ∷ Wt ∷ []

-- commands for which a missing parameter is 38
abbrev pub needing_one : List Mnemonic
needing_one = Va ∷ Ac ∷ Ag ∷ Sl ∷ Sr ∷ Fp ∷ Pa ∷ Pr ∷ Wt ∷ []

-- commands for which a missing parameter is 7
abbrev pub group_figures : List Mnemonic
group_figures = Hv ∷ Ha ∷ Hd ∷ []

-- commands that a member of a group does not take
abbrev pub barred_to_members : List Mnemonic
barred_to_members = Mo ∷ Mf ∷ Pa ∷ Pr ∷ St ∷ Dh ∷ Sl ∷ Sr ∷ []

-- commands that answer and take out the oldest error
abbrev pub error_commands : List Mnemonic
error_commands = Tb ∷ Te ∷ []
