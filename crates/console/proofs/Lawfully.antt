-- Behind an accepted opening every run is lawful.
use Rattle.std.proofs.Common.{◌≡◌, ℕ, List, Ok, Err, Result, sym, ap, subst}
use Rattle.drive.specs.Model.{Sound}
use Rattle.queue.specs.declared.refusal.Refusal.{Refusal}
use Rattle.rules.specs.World.{World}
use Rattle.rules.specs.Calls.{open_call}
use Rattle.laws.specs.Laws.{Lawful}
use Rattle.laws.proofs.Whole.{every_run_lawful, words}
use Rattle.laws.proofs.StrikingRuns.{striking}
use Rattle.laws.proofs.StrikingSent.{lines_sent}
use Rattle.laws.proofs.StrikingTexts.{lines_struck}
use Rattle.console.specs.Answers.{plain_answer}
use Rattle.console.specs.Opened.{OpenedLawfully}

pub opened_lawfully : (w : World) (bytes : List ℕ) (r : Result Unit Refusal) (v : World) → Sound w.core.drive → (plain_answer r, v) ≡ open_call w bytes → OpenedLawfully bytes r v
opened_lawfully w bytes (Err r) v s e = tt
opened_lawfully w bytes (Ok u) v s e =
    λ rs d.
    record {
      lawful = subst (Lawful rs) (ap (λ p. p.1) (sym e)) (every_run_lawful w bytes rs s d (ap (λ p. p.0.number) (sym e)));
      striking = striking v;
      calls = lines_sent;
      lines = lines_struck;
      words = words;
    }
