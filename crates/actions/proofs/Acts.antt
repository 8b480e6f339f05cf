-- What fits is what was said: waits. Assumes nothing.
use Rattle.std.proofs.Common.{◌≡◌, ℕ, eqb, sym, ap, ◌∙◌, subst}
use Rattle.command.specs.declared.mnemonic.Mnemonic.{Mnemonic}
use Rattle.command.specs.declared.mnemonic.Mnemonic.TheVariants.{Ws, Hw}
use Rattle.command.specs.Commands.{Command, capped}
use Rattle.rules.specs.World.{Core}
use Rattle.rules.specs.Refusals.{axis_named, group_named}
use Rattle.rules.specs.Deeds.{does, wait_for, still, group_still}
use Rattle.actions.specs.Fits.{Fits}

-- the waits for an axis and for a group
pub axis_waited : (k j : Core) (m : Mnemonic) (c : Command) (n : ℕ) → m ≡ Ws → Fits k m c → n ≡ capped (axis_named c) → j ≡ (wait_for (still (eqb n 0) n) k).core → j ≡ (does k m c).core
axis_waited k j m c n is f named e =
    e ∙ ap (λ i. (wait_for (still (eqb i 0) i) k).core) (named ∙ subst (λ x. Fits k x c) is f) ∙ ap (λ x. (does k x c).core) (sym is)

pub group_waited : (k j : Core) (m : Mnemonic) (c : Command) (n : ℕ) → m ≡ Hw → Fits k m c → n ≡ capped (group_named k c) → j ≡ (wait_for (group_still n) k).core → j ≡ (does k m c).core
group_waited k j m c n is f named e =
    e ∙ ap (λ i. (wait_for (group_still i) k).core) (named ∙ subst (λ x. Fits k x c) is f) ∙ ap (λ x. (does k x c).core) (sym is)
