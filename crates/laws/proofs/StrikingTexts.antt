-- Bytes taken out of a line: what stands between the semicolons then. Assumes nothing.
use Rattle.std.proofs.Common.{◌≡◌, ℕ, zero, suc, ◌+◌, ◌-◌, ◌≤◌, Bool, true, false, cond, ◌&&◌, eqb, List, [], ◌∷◌, ◌++◌, map, reverse, length, take, drop, sym, refl, ap, ◌∙◌, one-add, arith}
use Rattle.std.proofs.lemmas.List.{reverse-append, reverse-reverse, length-append, length-reverse, length-drop, length-take, length-take-le, take-append-drop, drop-drop}
use Rattle.std.specs.List.{prefix_len, suffix_len}
use Rattle.std.proofs.lemmas.List.Sums.{prefix_len-le-length, suffix_len-le-length}
use Rattle.std.proofs.lemmas.Bool.{eqb-true, not-false, and_parts, and_from, eq-eqb}
use Rattle.command.specs.Lines.{blank, apart, trimmed, up_to, begun, later}
use Rattle.command.specs.Commands.{Command, commands_of}
use Rattle.laws.specs.Strike.{first_flag, later_flags, unflagged, texts, behind, together, all_blank, without_command, struck_texts, struck_line, LinesStruck}
use Rattle.laws.proofs.StrikingViews.{view}
use Rattle.laws.proofs.StrikingReads.{later_texts, read, read_all, commands_read}

-- ---- bytes without a separator

abbrev pub free : ℕ → List ℕ → Bool
free s [] = true
free s (x ∷ xs) = apart s x && free s xs

abbrev pub all_free : ℕ → List (List ℕ) → Bool
all_free s [] = true
all_free s (t ∷ ts) = free s t && all_free s ts

pub free_append : (s : ℕ) (xs ys : List ℕ) → free s xs ≡ true → free s ys ≡ true → free s (xs ++ ys) ≡ true
free_append s [] ys h g = g
free_append s (x ∷ xs) ys h g = let p = and_parts (apart s x) (free s xs) h in and_from _ _ p.0 (free_append s xs ys p.1 g)

free_take : (s n : ℕ) (xs : List ℕ) → free s xs ≡ true → free s (take n xs) ≡ true
free_take s zero xs h = refl
free_take s (suc n) [] h = refl
free_take s (suc n) (x ∷ xs) h = let p = and_parts (apart s x) (free s xs) h in and_from _ _ p.0 (free_take s n xs p.1)

free_drop : (s n : ℕ) (xs : List ℕ) → free s xs ≡ true → free s (drop n xs) ≡ true
free_drop s zero xs h = h
free_drop s (suc n) [] h = refl
free_drop s (suc n) (x ∷ xs) h = free_drop s n xs (and_parts (apart s x) (free s xs) h).1

-- what stands before a separator is free of it
pub up_to_free : (s : ℕ) (xs : List ℕ) → free s (up_to s xs) ≡ true
up_to_free s [] = refl
up_to_free s (x ∷ xs) =
    (elim (apart s x) as (λ b. apart s x ≡ b → free s (cond b (x ∷ up_to s xs) []) ≡ true) [
      | true ↦ λ e. and_from _ _ e (up_to_free s xs)
      | false ↦ λ e. refl
    ]) refl

later_free : (s c : ℕ) (xs : List ℕ) → all_free s (map (λ p. p.1) (later s c xs)) ≡ true
later_free s c [] = refl
later_free s c (x ∷ xs) =
    elim (apart s x) as (λ b. all_free s (map (λ p. p.1) (begun b (c + 1, up_to s xs) (later s (c + 1) xs))) ≡ true) [
      | true ↦ later_free s (c + 1) xs
      | false ↦ and_from _ _ (up_to_free s xs) (later_free s (c + 1) xs)
    ]

pub texts_free : (line : List ℕ) → all_free 59 (texts line) ≡ true
texts_free line = and_from _ _ (up_to_free 59 line) (later_free 59 1 line)

-- bytes that are free of another byte stay so in their parts
up_to_keeps : (q s : ℕ) (xs : List ℕ) → free q xs ≡ true → free q (up_to s xs) ≡ true
up_to_keeps q s [] h = refl
up_to_keeps q s (x ∷ xs) h =
    let p = and_parts (apart q x) (free q xs) h in
    elim (apart s x) as (λ b. free q (cond b (x ∷ up_to s xs) []) ≡ true) [
      | true ↦ and_from _ _ p.0 (up_to_keeps q s xs p.1)
      | false ↦ refl
    ]

later_keeps : (q s c : ℕ) (xs : List ℕ) → free q xs ≡ true → all_free q (map (λ p. p.1) (later s c xs)) ≡ true
later_keeps q s c [] h = refl
later_keeps q s c (x ∷ xs) h =
    let p = and_parts (apart q x) (free q xs) h in
    elim (apart s x) as (λ b. all_free q (map (λ p. p.1) (begun b (c + 1, up_to s xs) (later s (c + 1) xs))) ≡ true) [
      | true ↦ later_keeps q s (c + 1) xs p.1
      | false ↦ and_from _ _ (up_to_keeps q s xs p.1) (later_keeps q s (c + 1) xs p.1)
    ]

texts_keep : (q : ℕ) (line : List ℕ) → free q line ≡ true → all_free q (texts line) ≡ true
texts_keep q line h = and_from _ _ (up_to_keeps q 59 line h) (later_keeps q 59 1 line h)

-- ---- texts put together are read as the same texts

up_to_behind : (t : List ℕ) (ts : List (List ℕ)) → free 59 t ≡ true → up_to 59 (t ++ behind ts) ≡ t
up_to_behind [] [] h = refl
up_to_behind [] (u ∷ ts) h = refl
up_to_behind (x ∷ t) ts h =
    let p = and_parts (apart 59 x) (free 59 t) h in
    ap (λ b. cond b (x ∷ up_to 59 (t ++ behind ts)) []) p.0 ∙ ap (λ r. x ∷ r) (up_to_behind t ts p.1)

later_skips : (c : ℕ) (t r : List ℕ) → free 59 t ≡ true → map (λ p. p.1) (later 59 c (t ++ r)) ≡ map (λ p. p.1) (later 59 c r)
later_skips c [] r h = refl
later_skips c (x ∷ t) r h =
    let p = and_parts (apart 59 x) (free 59 t) h in
    ap (λ b. map (λ p. p.1) (begun b (c + 1, up_to 59 (t ++ r)) (later 59 (c + 1) (t ++ r)))) p.0 ∙ later_skips (c + 1) t r p.1 ∙ later_texts 59 (c + 1) c r

later_behind : (c : ℕ) (ts : List (List ℕ)) → all_free 59 ts ≡ true → map (λ p. p.1) (later 59 c (behind ts)) ≡ ts
later_behind c [] h = refl
later_behind c (t ∷ ts) h =
    let p = and_parts (free 59 t) (all_free 59 ts) h in
    (λ i. up_to_behind t ts p.0 i ∷ (later_skips (c + 1) t (behind ts) p.0 ∙ later_behind (c + 1) ts p.1) i)

pub texts_together : (t : List ℕ) (ts : List (List ℕ)) → all_free 59 (t ∷ ts) ≡ true → texts (together (t ∷ ts)) ≡ t ∷ ts
texts_together t ts h =
    let p = and_parts (free 59 t) (all_free 59 ts) h in
    (λ i. up_to_behind t ts p.0 i ∷ (later_skips 1 t (behind ts) p.0 ∙ later_behind 1 ts p.1) i)

-- ---- a line is its texts put together

put_together : (c : ℕ) (xs : List ℕ) → up_to 59 xs ++ behind (map (λ p. p.1) (later 59 c xs)) ≡ xs
put_together c [] = refl
put_together c (x ∷ xs) =
    (elim (apart 59 x) as (λ b. apart 59 x ≡ b → cond b (x ∷ up_to 59 xs) [] ++ behind (map (λ p. p.1) (begun b (c + 1, up_to 59 xs) (later 59 (c + 1) xs))) ≡ x ∷ xs) [
      | true ↦ λ e. ap (λ r. x ∷ r) (put_together (c + 1) xs)
      | false ↦ λ e. (λ i. sym (eqb-true x 59 (not-false (eqb x 59) e)) i ∷ put_together (c + 1) xs i)
    ]) refl

pub together_texts : (line : List ℕ) → together (texts line) ≡ line
together_texts line = put_together 1 line

-- ---- what is left of a text is blank

-- blanks alone
abbrev only : List ℕ → Bool
only [] = true
only (x ∷ xs) = blank x && only xs

only_append : (xs ys : List ℕ) → only xs ≡ true → only ys ≡ true → only (xs ++ ys) ≡ true
only_append [] ys h g = g
only_append (x ∷ xs) ys h g = let p = and_parts (blank x) (only xs) h in and_from _ _ p.0 (only_append xs ys p.1 g)

only_reverse : (xs : List ℕ) → only xs ≡ true → only (reverse xs) ≡ true
only_reverse [] h = refl
only_reverse (x ∷ xs) h =
    let p = and_parts (blank x) (only xs) h in
    ap only (reverse-append (x ∷ []) xs) ∙ only_append (reverse xs) (x ∷ []) (only_reverse xs p.1) (and_from _ _ p.0 refl)

only_leading : (xs : List ℕ) → only (take (prefix_len blank xs) xs) ≡ true
only_leading [] = refl
only_leading (x ∷ xs) =
    (elim (blank x) as (λ b. blank x ≡ b → only (take (cond b (1 + prefix_len blank xs) 0) (x ∷ xs)) ≡ true) [
      | true ↦ λ e. ap (λ n. only (take n (x ∷ xs))) (one-add (prefix_len blank xs)) ∙ and_from _ _ e (only_leading xs)
      | false ↦ λ e. refl
    ]) refl

drop_front : (xs ys : List ℕ) → drop (length xs) (xs ++ ys) ≡ ys
drop_front [] ys = refl
drop_front (x ∷ xs) ys = drop_front xs ys

-- the end of a list is the front of the list turned round
drop_end : (m : ℕ) (xs : List ℕ) → m ≤ length xs → drop (length xs - m) xs ≡ reverse (take m (reverse xs))
drop_end m xs h =
    let r = reverse xs in
    let a = reverse (drop m r) in
    let b = reverse (take m r) in
    let split : a ++ b ≡ xs = sym (reverse-append (take m r) (drop m r)) ∙ ap reverse (take-append-drop m r) ∙ reverse-reverse xs in
    let n : length a ≡ length (drop m r) = length-reverse (drop m r) in
    let d : length (drop m r) ≡ length r - m = length-drop m r in
    let l : length r ≡ length xs = length-reverse xs in
    let cut : length xs - m ≡ length a = omega arith in
    ap (λ k. drop k xs) cut ∙ ap (drop (length a)) (sym split) ∙ drop_front a b

only_ending : (xs : List ℕ) → only (drop (length xs - suffix_len blank xs) xs) ≡ true
only_ending xs = ap only (drop_end (suffix_len blank xs) xs (suffix_len-le-length blank xs)) ∙ only_reverse (take (suffix_len blank xs) (reverse xs)) (only_leading (reverse xs))

only_all : (xs : List ℕ) → only xs ≡ true → prefix_len blank xs ≡ length xs
only_all [] h = refl
only_all (x ∷ xs) h =
    let p = and_parts (blank x) (only xs) h in
    let more = only_all xs p.1 in
    ap (λ b. cond b (1 + prefix_len blank xs) 0) p.0 ∙ omega arith

trimmed_blank : (xs : List ℕ) → prefix_len blank xs ≡ length xs → length (trimmed xs) ≡ 0
trimmed_blank xs h =
    let d = drop (prefix_len blank xs) xs in
    let n = length-drop (prefix_len blank xs) xs in
    let m = length-take (length d - suffix_len blank d) d in
    omega arith

-- what stands behind the last byte that is no blank
behind_command : (t : List ℕ) → only (drop (prefix_len blank t + length (trimmed t)) t) ≡ true
behind_command t =
    let n = prefix_len blank t in
    let d = drop n t in
    let l : length (trimmed t) ≡ length d - suffix_len blank d = length-take-le (length d - suffix_len blank d) d (omega arith) in
    ap only (sym (drop-drop (length (trimmed t)) n t) ∙ ap (λ k. drop k d) l) ∙ only_ending d

without_blank : (blanks : Bool) (t : List ℕ) → all_blank (without_command blanks t) ≡ true
without_blank true t = refl
without_blank false t =
    let w = without_command false t in
    eq-eqb (length (trimmed w)) 0 (trimmed_blank w (only_all w (only_append (take (prefix_len blank t) t) (drop (prefix_len blank t + length (trimmed t)) t) (only_leading t) (behind_command t))))

-- ---- striking texts strikes commands

read_one : (blanks f : Bool) (t : List ℕ) (us : List (List ℕ)) (cs : List Command) → all_blank t ≡ false → read_all us ≡ cs → read_all (cond f (without_command blanks t) t ∷ us) ≡ cond f cs (read t ∷ cs)
read_one blanks true t us cs h e = ap (λ b. cond b (read_all us) (read (without_command blanks t) ∷ read_all us)) (without_blank blanks t) ∙ e
read_one blanks false t us cs h e = ap (λ b. cond b (read_all us) (read t ∷ read_all us)) h ∙ ap (λ cs. read t ∷ cs) e

pub read_struck : (blanks : Bool) (bs : List Bool) (ts : List (List ℕ)) → read_all (struck_texts blanks bs ts) ≡ unflagged bs (read_all ts)
read_struck blanks bs [] = refl
read_struck blanks bs (t ∷ ts) =
    (elim (all_blank t) as (λ b. all_blank t ≡ b → read_all (cond b (t ∷ struck_texts blanks bs ts) (cond (first_flag bs) (without_command blanks t) t ∷ struck_texts blanks (later_flags bs) ts)) ≡ unflagged bs (cond b (read_all ts) (read t ∷ read_all ts))) [
      | true ↦ λ e. ap (λ b. cond b (read_all (struck_texts blanks bs ts)) (read t ∷ read_all (struck_texts blanks bs ts))) e ∙ read_struck blanks bs ts
      | false ↦ λ e. read_one blanks (first_flag bs) t (struck_texts blanks (later_flags bs) ts) (unflagged (later_flags bs) (read_all ts)) e (read_struck blanks (later_flags bs) ts)
    ]) refl

-- ---- struck texts are free of what the texts were free of

without_free : (q : ℕ) (blanks f : Bool) (t : List ℕ) → free q t ≡ true → free q (cond f (without_command blanks t) t) ≡ true
without_free q true true t h = refl
without_free q false true t h = free_append q (take (prefix_len blank t) t) (drop (prefix_len blank t + length (trimmed t)) t) (free_take q (prefix_len blank t) t h) (free_drop q (prefix_len blank t + length (trimmed t)) t h)
without_free q true false t h = h
without_free q false false t h = h

pub struck_free : (q : ℕ) (blanks : Bool) (bs : List Bool) (ts : List (List ℕ)) → all_free q ts ≡ true → all_free q (struck_texts blanks bs ts) ≡ true
struck_free q blanks bs [] h = refl
struck_free q blanks bs (t ∷ ts) h =
    let p = and_parts (free q t) (all_free q ts) h in
    elim (all_blank t) as (λ b. all_free q (cond b (t ∷ struck_texts blanks bs ts) (cond (first_flag bs) (without_command blanks t) t ∷ struck_texts blanks (later_flags bs) ts)) ≡ true) [
      | true ↦ and_from _ _ p.0 (struck_free q blanks bs ts p.1)
      | false ↦ and_from _ _ (without_free q blanks (first_flag bs) t p.0) (struck_free q blanks (later_flags bs) ts p.1)
    ]

behind_free : (q : ℕ) (ts : List (List ℕ)) → apart q 59 ≡ true → all_free q ts ≡ true → free q (behind ts) ≡ true
behind_free q [] e h = refl
behind_free q (t ∷ ts) e h = let p = and_parts (free q t) (all_free q ts) h in and_from _ _ e (free_append q t (behind ts) p.0 (behind_free q ts e p.1))

together_free : (q : ℕ) (ts : List (List ℕ)) → apart q 59 ≡ true → all_free q ts ≡ true → free q (together ts) ≡ true
together_free q [] e h = refl
together_free q (t ∷ ts) e h = let p = and_parts (free q t) (all_free q ts) h in free_append q t (behind ts) p.0 (behind_free q ts e p.1)

-- no CR comes into a line
pub line_free : (blanks : Bool) (bs : List Bool) (line : List ℕ) → free 13 line ≡ true → free 13 (struck_line blanks bs line) ≡ true
line_free blanks bs line h = together_free 13 (struck_texts blanks bs (texts line)) refl (struck_free 13 blanks bs (texts line) (texts_keep 13 line h))

-- ---- no line gets longer

without_short : (blanks f : Bool) (t : List ℕ) → length (cond f (without_command blanks t) t) ≤ length t
without_short true true t = omega arith
without_short false true t =
    let n = prefix_len blank t in
    let m = n + length (trimmed t) in
    let d = drop n t in
    let a : length (cond true (without_command false t) t) ≡ length (take n t) + length (drop m t) = length-append (take n t) (drop m t) in
    let b : length (take n t) ≡ n = length-take-le n t (prefix_len-le-length blank t) in
    let e : length (drop m t) ≡ length t - m = length-drop m t in
    let l = prefix_len-le-length blank t in
    omega arith
without_short true false t = omega arith
without_short false false t = omega arith

behind_short : (blanks : Bool) (bs : List Bool) (ts : List (List ℕ)) → length (behind (struck_texts blanks bs ts)) ≤ length (behind ts)
behind_short blanks bs [] = omega arith
behind_short blanks bs (t ∷ ts) =
    let whole = length-append t (behind ts) in
    elim (all_blank t) as (λ b. length (behind (cond b (t ∷ struck_texts blanks bs ts) (cond (first_flag bs) (without_command blanks t) t ∷ struck_texts blanks (later_flags bs) ts))) ≤ length (behind (t ∷ ts))) [
      | true ↦ let a = length-append t (behind (struck_texts blanks bs ts)) in let h = behind_short blanks bs ts in omega arith
      | false ↦
          let u = cond (first_flag bs) (without_command blanks t) t in
          let a = length-append u (behind (struck_texts blanks (later_flags bs) ts)) in
          let h = behind_short blanks (later_flags bs) ts in
          let s = without_short blanks (first_flag bs) t in
          omega arith
    ]

together_short : (blanks : Bool) (bs : List Bool) (ts : List (List ℕ)) → length (together (struck_texts blanks bs ts)) ≤ length (together ts)
together_short blanks bs [] = omega arith
together_short blanks bs (t ∷ ts) =
    let whole = length-append t (behind ts) in
    elim (all_blank t) as (λ b. length (together (cond b (t ∷ struck_texts blanks bs ts) (cond (first_flag bs) (without_command blanks t) t ∷ struck_texts blanks (later_flags bs) ts))) ≤ length (together (t ∷ ts))) [
      | true ↦ let a = length-append t (behind (struck_texts blanks bs ts)) in let h = behind_short blanks bs ts in omega arith
      | false ↦
          let u = cond (first_flag bs) (without_command blanks t) t in
          let a = length-append u (behind (struck_texts blanks (later_flags bs) ts)) in
          let h = behind_short blanks (later_flags bs) ts in
          let s = without_short blanks (first_flag bs) t in
          omega arith
    ]

pub line_short : (blanks : Bool) (bs : List Bool) (line : List ℕ) → length (struck_line blanks bs line) ≤ length line
line_short blanks bs line =
    let h = together_short blanks bs (texts line) in
    let e = ap length (together_texts line) in
    omega arith

-- ---- without a flag nothing is struck

none_struck : (blanks : Bool) (ts : List (List ℕ)) → struck_texts blanks [] ts ≡ ts
none_struck blanks [] = refl
none_struck blanks (t ∷ ts) =
    elim (all_blank t) as (λ b. cond b (t ∷ struck_texts blanks [] ts) (t ∷ struck_texts blanks [] ts) ≡ t ∷ ts) [
      | true ↦ ap (λ us. t ∷ us) (none_struck blanks ts)
      | false ↦ ap (λ us. t ∷ us) (none_struck blanks ts)
    ]

pub line_kept : (blanks : Bool) (line : List ℕ) → struck_line blanks [] line ≡ line
line_kept blanks line = ap together (none_struck blanks (texts line)) ∙ together_texts line

-- ---- the commands of a struck line

struck_read : (blanks : Bool) (bs : List Bool) (t : List ℕ) (ts : List (List ℕ)) → all_free 59 (t ∷ ts) ≡ true → texts (together (struck_texts blanks bs (t ∷ ts))) ≡ struck_texts blanks bs (t ∷ ts)
struck_read blanks bs t ts h =
    let p = and_parts (free 59 t) (all_free 59 ts) h in
    elim (all_blank t) as (λ b. texts (together (cond b (t ∷ struck_texts blanks bs ts) (cond (first_flag bs) (without_command blanks t) t ∷ struck_texts blanks (later_flags bs) ts))) ≡ cond b (t ∷ struck_texts blanks bs ts) (cond (first_flag bs) (without_command blanks t) t ∷ struck_texts blanks (later_flags bs) ts)) [
      | true ↦ texts_together t (struck_texts blanks bs ts) (and_from _ _ p.0 (struck_free 59 blanks bs ts p.1))
      | false ↦ texts_together (cond (first_flag bs) (without_command blanks t) t) (struck_texts blanks (later_flags bs) ts)
          (and_from _ _ (without_free 59 blanks (first_flag bs) t p.0) (struck_free 59 blanks (later_flags bs) ts p.1))
    ]

-- they are the commands left, but for their columns
pub struck_commands : (blanks : Bool) (bs : List Bool) (line : List ℕ) → map view (commands_of (struck_line blanks bs line)) ≡ unflagged bs (map view (commands_of line))
struck_commands blanks bs line =
    commands_read (struck_line blanks bs line) ∙ ap read_all (struck_read blanks bs (up_to 59 line) (map (λ p. p.1) (later 59 1 line)) (texts_free line))
    ∙ read_struck blanks bs (texts line) ∙ ap (unflagged bs) (sym (commands_read line))

pub lines_struck : LinesStruck
lines_struck blanks bs line =
    record {
      texts_left = struck_read blanks bs (up_to 59 line) (map (λ p. p.1) (later 59 1 line)) (texts_free line);
      commands_left = struck_commands blanks bs line;
      short = line_short blanks bs line;
      untouched = line_kept blanks line;
    }
