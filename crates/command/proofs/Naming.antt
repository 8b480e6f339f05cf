-- The table of commands has each command under its letters.
use Rattle.std.proofs.Common.{◌≡◌, ℕ, List, [], ◌∷◌, Some, None, Option, sym, refl, ◌∙◌, subst, arith}
use Rattle.std.proofs.lemmas.Bool.Decides.{nat_tests}
use Rattle.command.specs.declared.mnemonic.Mnemonic.{Mnemonic}
use Rattle.command.specs.declared.mnemonic.Mnemonic.TheVariants.{Va, Ac, Ag, Sl, Sr, Fp, Mo, Mf, Pa, Pr, St, Dh, Ws, Id, Tp, Dp, Md, Hn, Hx, Hv, Ha, Hd, Ho, Hf, Hl, Hp, Hw, Ab, Wt, Tb, Te}
use Rattle.command.specs.Mnemonics.{first, second, every, pick, chosen, Named}

picked : (a b : ℕ) (ms : List Mnemonic) (m : Mnemonic) → pick a b ms ≡ Some m → (first m ≡ a) × (second m ≡ b)
picked a b [] m e = grind arith
picked a b (x ∷ ms) m e =
    let more = picked a b ms m in
    grind (arith, nat_tests)

never : (m : Mnemonic) → None ≡ Some m → ⊥
never m e = let z : ◌≡◌ {A = ℕ} 0 1 = cc in omega arith

lettered : (m : Mnemonic) → chosen (first m) (second m) ≡ Some m
lettered m = elim m as (λ n. chosen (first n) (second n) ≡ Some n) [ Va ↦ refl | Ac ↦ refl | Ag ↦ refl | Sl ↦ refl | Sr ↦ refl | Fp ↦ refl | Mo ↦ refl | Mf ↦ refl | Pa ↦ refl | Pr ↦ refl | St ↦ refl | Dh ↦ refl | Ws ↦ refl | Id ↦ refl | Tp ↦ refl | Dp ↦ refl | Md ↦ refl | Hn ↦ refl | Hx ↦ refl | Hv ↦ refl | Ha ↦ refl | Hd ↦ refl | Ho ↦ refl | Hf ↦ refl | Hl ↦ refl | Hp ↦ refl | Hw ↦ refl | Ab ↦ refl | Wt ↦ refl | Tb ↦ refl | Te ↦ refl ]

pub named : (a b : ℕ) (r : Option Mnemonic) → r ≡ chosen a b → Named a b r
named a b None e = λ m p q.
    let z : chosen a b ≡ Some m = subst (λ y. chosen y b ≡ Some m) p (subst (λ y. chosen (first m) y ≡ Some m) q (lettered m)) in
    never m (e ∙ z)
named a b (Some m) e = picked a b every m (sym e)
