-- A command has no fewer bytes than its least size.
use Rattle.std.proofs.Common.{◌≡◌, ℕ, suc, ◌+◌, ◌≤◌, true, false, cond, ◌||◌, eqb, ltb, List, [], ◌∷◌, length, get_or, take, drop, is_some, Some, None, Option, sym, refl, ap, subst, arith}
use Rattle.std.specs.List.{prefix_len, sum_by}
use Rattle.std.proofs.lemmas.List.{length-take, length-drop, length-map}
use Rattle.std.proofs.lemmas.List.Sums.{prefix_len-le-length, sum_by-cons}
use Rattle.std.proofs.lemmas.Bool.{cond_both, eqb-false, ltb-false}
use Rattle.number.specs.Digits.{digits_before, digit}
use Rattle.command.specs.Lines.{Part, apart, trimmed, bare, up_to, begun, later, parts}
use Rattle.command.specs.Commands.{Command, field, is_prefix, is_parameter, prefix_of, named, body_of, command_of, least_size, asks, parameters_from, parameters_of, in_front, all_commands, commands_from, commands_of}
use Rattle.command.specs.Laws.{taken}
use Rattle.command.proofs.Parted.{up_to_is}
use Rattle.command.specs.Mnemonics.{mnemonic_of}
use Rattle.command.specs.declared.mnemonic.Mnemonic.{Mnemonic}

pub trimmed_short : (xs : List ℕ) → length (trimmed xs) ≤ length xs
trimmed_short xs = simp (length-take, length-drop) (omega arith)

prefix_digit : (p : Part) → cond (is_some (prefix_of p)) 1 0 ≤ digits_before p.1
prefix_digit p =
    cond_both (eqb (digits_before p.1) 0) None (Some (field is_prefix (p.0, take (digits_before p.1) p.1))) (λ o. cond (is_some o) 1 0 ≤ digits_before p.1) (λ e. omega arith)
    (λ e. omega (arith, eqb-false _ 0 e))

most_two : (o : Option Mnemonic) → cond (is_some o) 2 0 ≤ 2
most_two (Some m) = omega arith
most_two None = omega arith

named_letters : (p : Part) → cond (is_some (named p)) 2 0 ≤ length p.1
named_letters p =
    cond_both (ltb (length p.1) 2) None (mnemonic_of (get_or p.1 0 0) (get_or p.1 1 0)) (λ o. cond (is_some o) 2 0 ≤ length p.1) (λ e. omega arith)
    (λ e. omega (arith, ltb-false (length p.1) 2 e, most_two (mnemonic_of (get_or p.1 0 0) (get_or p.1 1 0))))

pub least_fits : {c : Command} {t : Part} (p : Part) → t ≡ bare p → c ≡ command_of t → least_size c ≤ length p.1
unfolding command_of
least_fits {c} {t} p te ce =
    let n = digits_before t.1 in
    let digits : n ≤ length t.1 = prefix_len-le-length digit t.1 in
    let body : length (body_of t).1 + n ≤ length t.1 = omega (arith, trimmed_short (drop n t.1), length-drop n t.1) in
    let here : length t.1 ≤ length p.1 = omega (arith, ap (λ q. length q.1) te, trimmed_short p.1) in
    subst (λ d. least_size d ≤ length p.1) (sym ce) (omega (arith, prefix_digit t, named_letters (body_of t)))

-- a part read as a command takes no more than its bytes and one
front_fits : (p : Part) (cs : List Command) → sum_by taken (in_front p cs) ≤ sum_by taken cs + (length p.1 + 1)
unfolding in_front
front_fits p cs =
    cond_both (eqb (length (trimmed p.1)) 0) cs (command_of (bare p) ∷ cs) (λ l. sum_by taken l ≤ sum_by taken cs + (length p.1 + 1)) (λ e. omega arith)
    (λ e. omega (arith, sum_by-cons taken (command_of (bare p)) cs, least_fits {c = command_of (bare p)} p refl refl))

-- the parts behind separators take no more than what follows the first separator, each with its own
later_fit : (c : ℕ) (xs : List ℕ) → sum_by taken (all_commands (later 59 c xs)) + prefix_len (apart 59) xs ≤ length xs
later_fit c [] = omega arith
later_fit c (x ∷ xs) =
    let more = later_fit (c + 1) xs in
    let part : Part = (c + 1, up_to 59 xs) in
    let all = all_commands (later 59 (c + 1) xs) in
    let here : length (up_to 59 xs) ≤ prefix_len (apart 59) xs = omega (arith, ap length (up_to_is 59 xs), length-take (prefix_len (apart 59) xs) xs) in
    (elim (apart 59 x) as (λ b. sum_by taken (all_commands (begun b part (later 59 (c + 1) xs))) + cond b (1 + prefix_len (apart 59) xs) 0 ≤ suc (length xs)) [
      | true ↦ omega (arith, more)
      | false ↦ omega (arith, more, here, front_fits part all)
    ])

-- the commands of a line take no more than its bytes and one
pub commands_fit : (line : List ℕ) → sum_by taken (commands_of line) ≤ length line + 1
unfolding commands_from
commands_fit line =
    let here : length (up_to 59 line) ≤ prefix_len (apart 59) line = omega (arith, ap length (up_to_is 59 line), length-take (prefix_len (apart 59) line) line) in
    omega (arith, here, later_fit 1 line, front_fits (1, up_to 59 line) (all_commands (later 59 1 line)))

-- each command takes one byte or more
count_fits : (cs : List Command) → length cs ≤ sum_by taken cs
count_fits [] = omega arith
count_fits (c ∷ cs) = omega (arith, sum_by-cons taken c cs, count_fits cs)

pub commands_few : (line : List ℕ) → length (commands_of line) ≤ length line + 1
commands_few line = omega (arith, count_fits (commands_of line), commands_fit line)

-- there are no more parts than bytes and one
later_few : (s c : ℕ) (xs : List ℕ) → length (later s c xs) ≤ length xs
later_few s c [] = omega arith
later_few s c (x ∷ xs) =
    let more = later_few s (c + 1) xs in
    (elim (apart s x) as (λ b. length (begun b (c + 1, up_to s xs) (later s (c + 1) xs)) ≤ suc (length xs)) [ true ↦ omega (arith, more) | false ↦ omega (arith, more) ])

pub parts_few : (s c : ℕ) (xs : List ℕ) → length (parts s c xs) ≤ length xs + 1
parts_few s c xs = omega (arith, later_few s c xs)

pub parameters_few : (p : Part) → length (parameters_of p) ≤ length p.1 + 1
unfolding parameters_from
parameters_few p =
    cond_both (eqb (length p.1) 0 || asks p.1) [] (parameters_from p) (λ l. length l ≤ length p.1 + 1) (λ e. omega arith)
    (λ e. omega (arith, length-map (parts 44 p.0 p.1) (λ q. field is_parameter (bare q)), parts_few 44 p.0 p.1))
