-- The commands of a line without their columns, by what stands between the semicolons. Assumes nothing.
use Rattle.std.proofs.Common.{◌≡◌, ℕ, ◌+◌, Bool, true, false, cond, ◌||◌, eqb, ltb, List, [], ◌∷◌, map, length, take, Some, None, sym, refl, ap, ◌∙◌}
use Rattle.std.specs.Option.{option_map}
use Rattle.number.specs.Digits.{digits_before}
use Rattle.command.specs.Lines.{Part, apart, trimmed, bare, past, up_to, begun, later, parts}
use Rattle.command.specs.Commands.{Kind, Field, Command, is_prefix, is_mnemonic, is_parameter, is_question, field, asks, parameters_from, body_of, command_of, in_front, all_commands, commands_from, commands_of}
use Rattle.laws.specs.Strike.{texts, all_blank}
use Rattle.laws.proofs.StrikingViews.{field-view, view}

-- ---- parts without their columns

pub later_texts : (s c d : ℕ) (xs : List ℕ) → map (λ p. p.1) (later s c xs) ≡ map (λ p. p.1) (later s d xs)
later_texts s c d [] = refl
later_texts s c d (x ∷ xs) =
    elim (apart s x) as (λ b. map (λ p. p.1) (begun b (c + 1, up_to s xs) (later s (c + 1) xs)) ≡ map (λ p. p.1) (begun b (d + 1, up_to s xs) (later s (d + 1) xs))) [
      | true ↦ later_texts s (c + 1) (d + 1) xs
      | false ↦ ap (λ ts. up_to s xs ∷ ts) (later_texts s (c + 1) (d + 1) xs)
    ]

-- fields of parts, without their columns
abbrev text_field : List ℕ → Field
text_field t = record { kind = is_parameter; column = 0; bytes = trimmed t }

fields_texts : (ps : List Part) → map field-view (map (λ q. field is_parameter (bare q)) ps) ≡ map text_field (map (λ p. p.1) ps)
fields_texts [] = refl
fields_texts (p ∷ ps) = ap (λ fs. text_field p.1 ∷ fs) (fields_texts ps)

-- ---- a command without its columns

field_cond : (b : Bool) (k : Kind) (c d : ℕ) (bs : List ℕ) → option_map field-view (cond b (Some (field k (c, bs))) None) ≡ option_map field-view (cond b (Some (field k (d, bs))) None)
field_cond true k c d bs = refl
field_cond false k c d bs = refl

field_unless : (b : Bool) (k : Kind) (c d : ℕ) (bs : List ℕ) → option_map field-view (cond b None (Some (field k (c, bs)))) ≡ option_map field-view (cond b None (Some (field k (d, bs))))
field_unless true k c d bs = refl
field_unless false k c d bs = refl

given_fields : (c d : ℕ) (xs : List ℕ) → map field-view (parameters_from (c, xs)) ≡ map field-view (parameters_from (d, xs))
unfolding parameters_from
given_fields c d xs =
    fields_texts (parts 44 c xs) ∙ ap (λ ts. map text_field (up_to 44 xs ∷ ts)) (later_texts 44 c d xs) ∙ sym (fields_texts (parts 44 d xs))

fields_unless : (b : Bool) (c d : ℕ) (xs : List ℕ) → map field-view (cond b [] (parameters_from (c, xs))) ≡ map field-view (cond b [] (parameters_from (d, xs)))
fields_unless true c d xs = refl
fields_unless false c d xs = given_fields c d xs

-- the command of a text without its columns
abbrev pub read : List ℕ → Command
read t = view (command_of (bare (0, t)))

view_read : (p : Part) → view (command_of (bare p)) ≡ view (command_of (bare (0, p.1)))
unfolding command_of
view_read p =
    let c = (bare p).0 in
    let d = (bare (0, p.1)).0 in
    let t = trimmed p.1 in
    let body = (body_of (0, t)).1 in
    let rest = (bare (past 2 (body_of (0, t)))).1 in
    let cb = (body_of (c, t)).0 in
    let db = (body_of (d, t)).0 in
    let cr = (bare (past 2 (body_of (c, t)))).0 in
    let dr = (bare (past 2 (body_of (d, t)))).0 in
    (λ i. record {
      column = 0;
      prefix = field_unless (eqb (digits_before t) 0) is_prefix c d (take (digits_before t) t) i;
      letters = field_unless (ltb (length body) 2) is_mnemonic cb db (take 2 body) i;
      mnemonic = (command_of (bare p)).mnemonic;
      question = field_cond (asks rest) is_question cr dr rest i;
      parameters = fields_unless (eqb (length rest) 0 || asks rest) cr dr rest i;
    })

-- texts read as commands; one of blanks alone is skipped
abbrev pub read_all : List (List ℕ) → List Command
read_all [] = []
read_all (t ∷ ts) = cond (all_blank t) (read_all ts) (read t ∷ read_all ts)

view_cond : (b : Bool) (c : Command) (cs : List Command) → map view (cond b cs (c ∷ cs)) ≡ cond b (map view cs) (view c ∷ map view cs)
view_cond true c cs = refl
view_cond false c cs = refl

views_read : (ps : List Part) → map view (all_commands ps) ≡ read_all (map (λ p. p.1) ps)
unfolding in_front
views_read [] = refl
views_read (p ∷ ps) =
    view_cond (all_blank p.1) (command_of (bare p)) (all_commands ps) ∙ (λ i. cond (all_blank p.1) (views_read ps i) (view_read p i ∷ views_read ps i))

-- the commands of a line are those of its texts
pub commands_read : (line : List ℕ) → map view (commands_of line) ≡ read_all (texts line)
unfolding commands_from
commands_read line = views_read (parts 59 1 line)
