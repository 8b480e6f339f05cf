-- Where commands and their fields stand in the line.
use Rattle.std.proofs.Common.{◌≡◌, ℕ, suc, ◌+◌, ◌-◌, ◌<◌, ◌≤◌, min, Bool, true, false, cond, ◌||◌, eqb, ltb, List, [], ◌∷◌, ◌++◌, map, length, get_or, take, drop, Some, None, sym, refl, ap, ◌∙◌, ⊎_elim, one-add, arith}
use Rattle.std.specs.List.{prefix_len, suffix_len, AllByRecursion}
use Rattle.std.proofs.lemmas.List.{take_rest, take-take, drop-take, drop-drop, length-take, length-drop, take_all, get_or-take, get_or-drop}
use Rattle.std.proofs.lemmas.List.Sums.{prefix_len-le-length}
use Rattle.std.proofs.lemmas.Bool.{cond_both, eqb-false, ltb-false, cases_lt}
use Rattle.number.specs.Digits.{digits_before, digit}
use Rattle.command.specs.Lines.{Part, blank, apart, trimmed, bare, past, up_to, later, parts}
use Rattle.command.specs.Commands.{Field, field, is_prefix, is_mnemonic, is_parameter, is_question, prefix_of, letters_of, asks, question_of, parameters_from, parameters_of, body_of, command_of, in_front, all_commands, commands_from}
use Rattle.command.specs.Laws.{Stands, listed, fields_of, Placed, CommandsPlaced}
use Rattle.command.proofs.Parted.{up_to_is}

part_of_part : (xs : List ℕ) (k m a n : ℕ) → a + n ≤ m → take n (drop a (take m (drop k xs))) ≡ take n (drop (k + a) xs)
part_of_part xs k m a n h =
    let e : a + (m - a) ≡ m = omega arith in
    let le : n ≤ m - a = omega arith in
    ap (λ z. take n (drop a (take z (drop k xs)))) (sym e) ∙ rw (drop-take, take-take, drop-drop)

-- a part of what stands in a line stands there
stands_part : (line : List ℕ) (c d : ℕ) (xs ys : List ℕ) (a n : ℕ) → Stands line c xs → a + n ≤ length xs → d ≡ c + a → ys ≡ take n (drop a xs) → Stands line d ys
stands_part line c d xs ys a n h le col is =
    let long : length ys ≡ n = ap length is ∙ simp (length-take, length-drop) (omega arith) in
    let from : c - 1 + a ≡ d - 1 = omega (arith, h.from) in
    record {
      from = omega (arith, h.from);
      within = omega (arith, h.within);
      own = is ∙ ap (λ l. take n (drop a l)) h.own ∙ part_of_part line _ _ a n le ∙ (λ i. take (sym long i) (drop (from i) line));
    }

-- what ends the blanks in front is no blank
leading_ends : (p : ℕ → Bool) (xs : List ℕ) → prefix_len p xs < length xs → p (get_or xs (prefix_len p xs) 0) ≡ false
leading_ends p [] h = absurd (omega arith)
leading_ends p (x ∷ xs) h =
    let more = leading_ends p xs in
    let up = one-add (prefix_len p xs) in
    (elim (p x) as (λ b. p x ≡ b → cond b (1 + prefix_len p xs) 0 < suc (length xs) → p (get_or (x ∷ xs) (cond b (1 + prefix_len p xs) 0) 0) ≡ false) [
      | true ↦ λ e g. ap (λ k. p (get_or (x ∷ xs) k 0)) up ∙ more (omega arith)
      | false ↦ λ e g. e
    ]) refl h

trimmed_begins : (xs : List ℕ) → 0 < length (trimmed xs) → blank (get_or (trimmed xs) 0 0) ≡ false
trimmed_begins xs h =
    let n = prefix_len blank xs in
    let k = length (drop n xs) - suffix_len blank (drop n xs) in
    let on : n + 0 ≡ n = omega arith in
    let long : 0 < min k (length xs - n) = omega (arith, length-take k (drop n xs), length-drop n xs) in
    ap blank (get_or-take k (drop n xs) 0 0 (omega arith) ∙ get_or-drop n xs 0 0 ∙ ap (λ j. get_or xs j 0) on) ∙ leading_ends blank xs (omega arith)

module _ (line : List ℕ) where
  abbrev In : Part → Type 0
  In p = Stands line p.0 p.1

  in_bare : (p : Part) → In p → In (bare p)
  in_bare p h = stands_part line p.0 _ p.1 _ (prefix_len blank p.1) _ h (simp length-drop (omega (arith, prefix_len-le-length blank p.1))) refl refl

  in_front_of : (p : Part) (n : ℕ) → n ≤ length p.1 → In p → In (p.0, take n p.1)
  in_front_of p n le h = stands_part line p.0 p.0 p.1 _ 0 n h (omega arith) (omega arith) refl

  in_past : (p : Part) (n : ℕ) → n ≤ length p.1 → In p → In (past n p)
  in_past p n le h = stands_part line p.0 _ p.1 _ n (length p.1 - n) h (omega arith) refl (sym (take_rest p.1 n))

  -- every part between separators
  in_later : (s c : ℕ) (xs : List ℕ) → Stands line c xs → AllByRecursion In (later s c xs)
  in_later s c [] h = tt
  in_later s c (x ∷ xs) h =
      let next : Stands line (c + 1) xs = stands_part line c (c + 1) (x ∷ xs) xs 1 (length xs) h (omega arith) refl (sym (take_all (length xs) xs (omega arith))) in
      let more = in_later s (c + 1) xs next in
      let first = stands_part line (c + 1) (c + 1) xs (up_to s xs) 0 (prefix_len (apart s) xs) next (omega (arith, prefix_len-le-length (apart s) xs)) (omega arith) (up_to_is s xs) in
      cond_both (apart s x) (later s (c + 1) xs) ((c + 1, up_to s xs) ∷ later s (c + 1) xs) (AllByRecursion In) (λ e. more) (λ e. (first, more))

  in_parts : (s : ℕ) (p : Part) → In p → AllByRecursion In (parts s p.0 p.1)
  in_parts s p h = (
    stands_part line p.0 p.0 p.1 (up_to s p.1) 0 (prefix_len (apart s) p.1) h (omega (arith, prefix_len-le-length (apart s) p.1)) (omega arith) (up_to_is s p.1),
    in_later s p.0 p.1 h,
  )

  abbrev FieldIn : Field → Type 0
  FieldIn f = Stands line f.column f.bytes

  all_append : (xs ys : List Field) → AllByRecursion FieldIn xs → AllByRecursion FieldIn ys → AllByRecursion FieldIn (xs ++ ys)
  all_append [] ys h g = g
  all_append (x ∷ xs) ys h g = (h.0, all_append xs ys h.1 g)

  in_prefix : (p : Part) → In p → AllByRecursion FieldIn (listed (prefix_of p))
  in_prefix p h =
      cond_both (eqb (digits_before p.1) 0) None (Some (field is_prefix (p.0, take (digits_before p.1) p.1))) (λ o. AllByRecursion FieldIn (listed o)) (λ e. tt)
      (λ e. (in_front_of p (digits_before p.1) (prefix_len-le-length digit p.1) h, tt))

  in_letters : (p : Part) → In p → AllByRecursion FieldIn (listed (letters_of p))
  in_letters p h =
      cond_both (ltb (length p.1) 2) None (Some (field is_mnemonic (p.0, take 2 p.1))) (λ o. AllByRecursion FieldIn (listed o)) (λ e. tt)
      (λ e. (in_front_of p 2 (ltb-false (length p.1) 2 e) h, tt))

  in_question : (p : Part) → In p → AllByRecursion FieldIn (listed (question_of p))
  in_question p h = cond_both (asks p.1) (Some (field is_question p)) None (λ o. AllByRecursion FieldIn (listed o)) (λ e. (h, tt)) (λ e. tt)

  in_given : (ps : List Part) → AllByRecursion In ps → AllByRecursion FieldIn (map (λ q. field is_parameter (bare q)) ps)
  in_given [] h = tt
  in_given (p ∷ ps) h = (in_bare p h.0, in_given ps h.1)

  in_parameters : (p : Part) → In p → AllByRecursion FieldIn (parameters_of p)
  unfolding parameters_from
  in_parameters p h =
      cond_both (eqb (length p.1) 0 || asks p.1) [] (parameters_from p) (AllByRecursion FieldIn) (λ e. tt)
      (λ e. in_given (parts 44 p.0 p.1) (in_parts 44 p h))

  -- a rest that is nothing has no fields
  in_nothing : (p : Part) → length p.1 ≡ 0 → AllByRecursion FieldIn (listed (question_of p) ++ parameters_of p)
  in_nothing (c, []) e = tt
  in_nothing (c, x ∷ xs) e = absurd (omega arith)

  in_rest : (p : Part) → In p → AllByRecursion FieldIn (listed (question_of (bare (past 2 p))) ++ parameters_of (bare (past 2 p)))
  in_rest p h =
      ⊎_elim
      (λ (short : length p.1 < 2). in_nothing (bare (past 2 p)) (simp (length-take, length-drop) (omega arith)))
      (λ (long : 2 ≤ length p.1). let rest = in_bare (past 2 p) (in_past p 2 long h) in
      all_append (listed (question_of (bare (past 2 p)))) (parameters_of (bare (past 2 p))) (in_question _ rest) (in_parameters _ rest))
      (cases_lt (length p.1) 2)

  in_fields : (p : Part) → In p → AllByRecursion FieldIn (fields_of (command_of p))
  unfolding command_of
  in_fields p h =
      let body : In (body_of p) = in_bare _ (in_past p (digits_before p.1) (prefix_len-le-length digit p.1) h) in
      all_append (listed (prefix_of p)) _ (in_prefix p h) (all_append (listed (letters_of (body_of p))) _ (in_letters (body_of p) body) (in_rest (body_of p) body))

  -- the first byte of what stands in the line
  first_byte : (p : Part) → In p → 0 < length p.1 → get_or line (p.0 - 1) 0 ≡ get_or p.1 0 0
  first_byte p h some =
      let zero-on : p.0 - 1 + 0 ≡ p.0 - 1 = omega arith in
      sym (ap (λ l. get_or l 0 0) h.own ∙ get_or-take (length p.1) (drop (p.0 - 1) line) 0 0 some ∙ get_or-drop (p.0 - 1) line 0 0 ∙ ap (λ k. get_or line k 0) zero-on)

  placed : (p : Part) → In p → eqb (length (trimmed p.1)) 0 ≡ false → Placed line (command_of (bare p))
  unfolding command_of
  placed p h some =
      let t : Part = bare p in
      let stands : In t = in_bare p h in
      let long : 0 < length t.1 = omega (arith, eqb-false _ 0 some) in
      record {
        from = stands.from;
        within = omega (arith, stands.within);
        begins = ap blank (first_byte t stands long) ∙ trimmed_begins p.1 long;
        fields = in_fields t stands;
      }

  all_placed : (ps : List Part) → AllByRecursion In ps → AllByRecursion (λ c. Placed line c) (all_commands ps)
  unfolding in_front
  all_placed [] h = tt
  all_placed (p ∷ ps) h =
      let more = all_placed ps h.1 in
      cond_both (eqb (length (trimmed p.1)) 0) (all_commands ps) (command_of (bare p) ∷ all_commands ps) (AllByRecursion (λ c. Placed line c)) (λ e. more) (λ e. (placed p h.0 e, more))

pub commands_placed : (line : List ℕ) → CommandsPlaced line
unfolding commands_from
commands_placed line =
    let whole : Stands line 1 line = record { from = omega arith; within = omega arith; own = sym (take_all (length line) line (omega arith)) } in
    all_placed line (parts 59 1 line) (in_parts line 59 (1, line) whole)
