use Rattle.std.proofs.Common.{ℕ, not, sym, ap, ◌∙◌}
use Rattle.std.specs.List.{find}
use Rattle.std.specs.Option.{option_map}
use Rattle.command.specs.Views.{said}
use Rattle.queue.specs.declared.error_entry.ErrorEntry.{ErrorEntry}
use Rattle.queue.specs.declared.fault.Fault.TheVariants.{MotorNotEnabled}
use Rattle.asked.specs.Seen.{seen}
use Rattle.rules.specs.World.{members, powered}
use Rattle.rules.specs.Refusals.{entry, group_named}
use Rattle.shape.specs.Verdicts.{verdict}
use Rattle.checks.proofs.Found.{judged_found}
use Rattle.checks.proofs.moves.members_powered.Goals as goal

pub returns-in-Some : goal.returns-in-Some
returns-in-Some g c =
    let k = seen g.D.Drive.axes c.args.case.now.view in
    let s = said c.args.case.now.command.now in
    let ns = members k (group_named k s) in
    let told : ℕ → ErrorEntry = λ n. entry (MotorNotEnabled n) s.column in
    let found = ap (find (λ n. not (powered k n))) (sym (c.axes.ensures ∙ c.members_named-members.ensures)) ∙ (sym c.first_unpowered.ensures ∙ c.in-Some.is) in
    sym (judged_found (powered k) told ns ∙ ap (λ o. verdict (option_map told o)) found)

pub returns-in-None : goal.returns-in-None
returns-in-None g c =
    let k = seen g.D.Drive.axes c.args.case.now.view in
    let s = said c.args.case.now.command.now in
    let ns = members k (group_named k s) in
    let told : ℕ → ErrorEntry = λ n. entry (MotorNotEnabled n) s.column in
    let found = ap (find (λ n. not (powered k n))) (sym (c.axes.ensures ∙ c.members_named-members.ensures)) ∙ (sym c.first_unpowered.ensures ∙ c.in-None.is) in
    sym (judged_found (powered k) told ns ∙ ap (λ o. verdict (option_map told o)) found)
