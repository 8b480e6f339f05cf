-- The two letters that name a command.
use Rattle.std.specs.Prelude.{◌≡◌, ℕ, cond, ◌&&◌, List, [], ◌∷◌, Some, None, Option, ◌==◌, ◌≢◌}
use Rattle.std.specs.Char.{to_ascii_uppercase}
use Rattle.command.specs.declared.mnemonic.Mnemonic.{Mnemonic}
use Rattle.command.specs.declared.mnemonic.Mnemonic.TheVariants.{Va, Ac, Ag, Sl, Sr, Fp, Mo, Mf, Pa, Pr, St, Dh, Ws, Id, Tp, Dp, Md, Hn, Hx, Hv, Ha, Hd, Ho, Hf, Hl, Hp, Hw, Ab, Wt, Tb, Te}

-- the first letter of a command, and the second
abbrev pub first : Mnemonic → ℕ
first Va = 86
first Ac = 65
first Ag = 65
first Sl = 83
first Sr = 83
first Fp = 70
first Mo = 77
first Mf = 77
first Pa = 80
first Pr = 80
first St = 83
first Dh = 68
first Ws = 87
first Id = 73
first Tp = 84
first Dp = 68
first Md = 77
first Hn = 72
first Hx = 72
first Hv = 72
first Ha = 72
first Hd = 72
first Ho = 72
first Hf = 72
first Hl = 72
first Hp = 72
first Hw = 72
first Ab = 65
first Wt = 87
first Tb = 84
first Te = 84

abbrev pub second : Mnemonic → ℕ
second Va = 65
second Ac = 67
second Ag = 71
second Sl = 76
second Sr = 82
second Fp = 80
second Mo = 79
second Mf = 70
second Pa = 65
second Pr = 82
second St = 84
second Dh = 72
second Ws = 83
second Id = 68
second Tp = 80
second Dp = 80
second Md = 68
second Hn = 78
second Hx = 88
second Hv = 86
second Ha = 65
second Hd = 68
second Ho = 79
second Hf = 70
second Hl = 76
second Hp = 80
second Hw = 87
second Ab = 66
second Wt = 84
second Tb = 66
second Te = 69

-- all commands
abbrev pub every : List Mnemonic
every = Va ∷ Ac ∷ Ag ∷ Sl ∷ Sr ∷ Fp ∷ Mo ∷ Mf ∷ Pa ∷ Pr ∷ St ∷ Dh ∷ Ws ∷ Id ∷ Tp ∷ Dp ∷ Md ∷ Hn ∷ Hx ∷ Hv ∷ Ha ∷ Hd ∷ Ho ∷ Hf ∷ Hl ∷ Hp ∷ Hw ∷ Ab ∷ Wt ∷ Tb ∷ Te ∷ []

-- the first of a list that has these letters
abbrev pub pick : ℕ → ℕ → List Mnemonic → Option Mnemonic
pick a b [] = None
pick a b (m ∷ ms) = cond (a == first m && b == second m) (Some m) (pick a b ms)

-- the command that two capitals name
abbrev pub chosen : ℕ → ℕ → Option Mnemonic
chosen a b = pick a b every

-- what two capitals name: the command that has these letters; nothing where no command has them
abbrev pub Named : ℕ → ℕ → Option Mnemonic → Type 0
Named a b None = (m : Mnemonic) → first m ≡ a → second m ≢ b
Named a b (Some m) = (first m ≡ a) × (second m ≡ b)

-- what the table gives, shut, so that what calls it does not go through the table
unfoldable pub capitals_name : ℕ → ℕ → Option Mnemonic
capitals_name a b = chosen a b

-- the command that two letters name, small ones counting as capitals
abbrev pub mnemonic_of : ℕ → ℕ → Option Mnemonic
mnemonic_of a b = capitals_name (to_ascii_uppercase a) (to_ascii_uppercase b)
