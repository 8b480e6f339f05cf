-- The first word is the keyword, whichever pattern the words behind it fit, and what stands behind it is the rest.
use Rattle.std.proofs.Common.{◌≡◌, ℕ, List, [], ◌∷◌, map, get_or, ap, Bor, rules}
use Rattle.trials.proofs.script.Directive.of_words.Goals as goal
use Rattle.trials.proofs.script.Directive.of_words.Goals.{then-words-lt2+in-drive-1, else-words-lt2+then-words-lt3+in-drive-1, else-words-lt2+else-words-lt3+then-words-lt4+in-drive-1, else-words-lt2+else-words-lt3+else-words-lt4+in-drive-1}

abbrev no_word : Bor (List ℕ)
no_word = record { ref_ptr = (0, 0); now = [] }

word_and_rest : (words : List (Bor (List ℕ))) (b : ℕ) (bs : List ℕ) → (get_or words 0 no_word).now ≡ b ∷ bs → (rest : List (List ℕ)) × map (λ w. w.now) words ≡ (b ∷ bs) ∷ rest
word_and_rest [] b bs first = absurd (cc)
word_and_rest (w ∷ words) b bs first = (map (λ v. v.now) words, ap (λ (x : List ℕ). x ∷ map (λ v. v.now) words) first)

pub returns-in_ok-drive-in-drive : goal.returns-in_ok-drive-in-drive
returns-in_ok-drive-in-drive c =
    elim c.in-drive-1.branch [
      | then-words-lt2+in-drive-1 w ↦ word_and_rest c.args.words.now _ _ (search rules)
      | else-words-lt2+then-words-lt3+in-drive-1 w ↦ word_and_rest c.args.words.now _ _ (search rules)
      | else-words-lt2+else-words-lt3+then-words-lt4+in-drive-1 w ↦ word_and_rest c.args.words.now _ _ (search rules)
      | else-words-lt2+else-words-lt3+else-words-lt4+in-drive-1 w ↦ word_and_rest c.args.words.now _ _ (search rules)
    ]
