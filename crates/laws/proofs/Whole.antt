-- All laws of every run.
use Rattle.std.proofs.Common.{◌≡◌, ℕ, zero, suc, ◌/◌, ◌≤◌, min, Bool, true, false, cond, T, ◌⊎◌, List, [], ◌∷◌, ◌++◌, map, length, pos, sym, refl, ap, ◌∙◌, subst, subst₂, inl, inr, arith}
use Rattle.std.proofs.lemmas.List.{length-replicate}
use Rattle.std.proofs.lemmas.Bool.{ne_eqb, cases_lt}
use Rattle.drive.specs.declared.profile.Profile.{Profile}
use Rattle.drive.specs.Model.{Axis, Sound}
use Rattle.setup.specs.declared.record.SetupRecord.{SetupRecord}
use Rattle.queue.specs.declared.refusal.Refusal.{Refusal}
use Rattle.queue.specs.declared.refusal.Refusal.TheVariants.{RecordCount, RecordLayout, DriveMismatch, OutsideLimits, ReplyTooSmall, LineOpen, TickCount, NoSuchError}
use Rattle.queue.specs.Refusals.{number_of}
use Rattle.groups.specs.Groups.{free_group, has}
use Rattle.groups.specs.Profiles.{no_profile, lesser, least}
use Rattle.desk.specs.declared.axis_settings.AxisSettings.{AxisSettings}
use Rattle.desk.specs.Tables.{row_or}
use Rattle.desk.specs.Axes.{no_axis, opened_axis}
use Rattle.desk.specs.Desks.{opened_desk}
use Rattle.rules.specs.World.{Core, World, axis_at}
use Rattle.rules.specs.Deeds.{Trail, and_then, beat, beats, wait}
use Rattle.rules.specs.Calls.{Answer, refusing, accepting, matches, placed, opened, open_with}
use Rattle.laws.specs.Ledger.{greatest, greatest_of, first_ledger, smallest, due}
use Rattle.laws.specs.Laws.{AtMost, Bounded, state, ledger_at, SmallestOf, Words, Lawful, EveryRunLawful}
use Rattle.laws.proofs.Basics.{has_case, has_first, has_later}
use Rattle.laws.proofs.Good.{most, Good}
use Rattle.laws.proofs.Trails.{beats_calm}
use Rattle.laws.proofs.Deeds.{step_fine, least_first, least_later}
use Rattle.laws.proofs.Openings.{opened_good, opened_count, opened_group}
use Rattle.laws.proofs.Runs.{step_good, beats_good, run_keeps, state_good, Capped, state_capped, all_told, refused_keeps, keeps_limits, starts_are, proper_most}
use Rattle.laws.proofs.Ledgers.{Kept, state_kept, beats_kept, proper_due}

-- a setting of each axis at the opening, by its record
opened_is : {X : Type 0} (f : SetupRecord → X) (get : AxisSettings → X) (d : X) → get no_axis ≡ d → ((r : SetupRecord) → get (opened_axis r) ≡ f r) → (rs : List SetupRecord) (n : ℕ) → get (row_or no_axis n (map opened_axis rs)) ≡ row_or d n (map f rs)
opened_is f get d none each rs zero = none
opened_is f get d none each [] (suc i) = none
opened_is f get d none each (r ∷ rs) (suc zero) = each r
opened_is f get d none each (r ∷ rs) (suc (suc i)) = opened_is f get d none each rs (suc i)

opened_kept : (rs : List SetupRecord) (axes : List Axis) → length axes ≤ 12 → T (matches (map opened_axis rs) axes) → Kept (first_ledger rs) (opened rs axes).core
opened_kept rs axes few m =
    record {
      agree = record {
        left = opened_is (λ r. r.left) (λ s. s.left) (pos 0) refl (λ r. refl) rs;
        right = opened_is (λ r. r.right) (λ s. s.right) (pos 0) refl (λ r. refl) rs;
        own = opened_is greatest (λ s. s.own) no_profile refl (λ r. refl) rs;
        members = λ g. ap (λ x. x.members) (opened_group rs axes g);
        shared = λ g. ap (λ x. x.profile) (opened_group rs axes g);
      };
      balanced = λ n. refl;
      single = λ g n. sym (ne_eqb 0 (suc g) (λ q. omega arith));
      groups_are = length-replicate (length rs / 2) free_group;
      few = subst (λ n. n ≤ 12) (sym (opened_count rs axes m)) few;
    }

lawful : (rs : List SetupRecord) (axes : List Axis) → Sound axes → T (matches (map opened_axis rs) axes) → T (placed (map opened_axis rs) axes) → Lawful rs (opened rs axes)
lawful rs axes sound m p =
    let w = opened rs axes in
    let l = first_ledger rs in
    let g = opened_good rs axes sound m p in
    let first = opened_kept rs axes sound.most m in
    let capped : Capped (greatest_of rs) w.core = record { good = g; mosts = opened_is greatest most no_profile refl (λ r. refl) rs } in
    record {
      told = all_told w g;
      limits = keeps_limits w g;
      refusals = λ xs cs. refused_keeps (state w xs cs);
      none_left_waiting = λ xs cs k n. ((beats_good k (state w xs cs).core (state_good w g xs cs)).groups n).idle;
      never_over = λ xs cs.
          let k = (state w xs cs).core in
          let h = state_capped (greatest_of rs) w capped xs cs in
          starts_are (λ n q. AtMost q (greatest_of rs n)) w xs cs h.good (λ n z q s. subst (AtMost q) (h.mosts n) (proper_most k h.good n z q s));
      accounted = λ xs cs.
          let s = state w xs cs in
          let at = ledger_at rs w xs cs in
          let h = state_good w g xs cs in
          let kept : Kept at s.core = state_kept l w xs cs g (run_keeps Good step_good beats_good w xs g) first in
          record {
            agree = λ k. (beats_kept at k s.core h kept).agree;
            bounded = λ k n. let a = (beats_kept at k s.core h kept).agree in subst₂ (λ lo hi. Bounded lo hi (axis_at (beats k s.core).core n)) (a.left n) (a.right n) (keeps_limits w g xs cs k n);
            balanced = kept.balanced;
            in_one_at_most = kept.single;
            carried = starts_are (λ n q. q ≡ due at n) w xs cs h (proper_due at s.core kept);
            stays = λ c. (step_fine s c h).stays;
            stays_beating = λ k. (beats_calm k s.core h).fine.stays;
          };
    }

-- ---- an accepted opening

accepted_only : (r : Refusal) → number_of r ≡ 0 → ⊥
accepted_only RecordCount e = omega (arith, e)
accepted_only RecordLayout e = omega (arith, e)
accepted_only DriveMismatch e = omega (arith, e)
accepted_only OutsideLimits e = omega (arith, e)
accepted_only ReplyTooSmall e = omega (arith, e)
accepted_only LineOpen e = omega (arith, e)
accepted_only TickCount e = omega (arith, e)
accepted_only NoSuchError e = omega (arith, e)

opening : (w : World) (rs : List SetupRecord) (a b : Bool) → (T a → T b → Lawful rs (opened rs w.core.drive))
    → (cond {A = Answer × World} a (cond {A = Answer × World} b (accepting [], opened rs w.core.drive) (refusing OutsideLimits, w)) (refusing DriveMismatch, w)).0.number ≡ 0
    → Lawful rs (cond {A = Answer × World} a (cond {A = Answer × World} b (accepting [], opened rs w.core.drive) (refusing OutsideLimits, w)) (refusing DriveMismatch, w)).1
opening w rs true true f e = f tt tt
opening w rs true false f e = absurd (accepted_only OutsideLimits e)
opening w rs false b f e = absurd (accepted_only DriveMismatch e)

pub every_run_lawful : EveryRunLawful
every_run_lawful w bytes rs sound e =
    subst (λ r. (open_with w r).0.number ≡ 0 → Lawful rs (open_with w r).1) (sym e)
    (opening w rs (matches (opened_desk rs).axes w.core.drive) (placed (opened_desk rs).axes w.core.drive) (λ m p. lawful rs w.core.drive sound m p))

-- ---- the words that ledger and rules share

listed : (n : ℕ) (ms ns : List ℕ) → T (has n (ms ++ n ∷ ns))
listed n [] ns = has_first n ns
listed n (m ∷ ms) ns = has_later n m (ms ++ n ∷ ns) (listed n ms ns)

abbrev Standing : ℕ → List ℕ → Type 0
Standing n ns = (before : List ℕ) × ((after : List ℕ) × (ns ≡ before ++ n ∷ after))

only_listed : (n : ℕ) (ns : List ℕ) → T (has n ns) → Standing n ns
only_listed n [] e = absurd e
only_listed n (m ∷ ns) e =
    has_case n m ns (λ q. ([], (ns, ap (λ j. j ∷ ns) q)))
    (λ i. let s = only_listed n ns i in (m ∷ s.0, (s.1.0, ap (λ js. m ∷ js) s.1.1))) e

one_of_two : (a b : ℕ) → (min a b ≡ a) ⊎ (min a b ≡ b)
one_of_two a b = elim (cases_lt a b) [ inl l ↦ inl (omega arith) | inr l ↦ inr (omega arith) ]

-- a figure of the smallest is that of the first or of one of the others
module _ (get : Profile → ℕ) (own : ℕ → Profile) (split : (p q : Profile) → get (lesser p q) ≡ min (get p) (get q)) where
  abbrev Reached : ℕ → List ℕ → Type 0
  Reached v ns = (n : ℕ) × (T (has n ns) × (v ≡ get (own n)))

  reached_later : (p : Profile) (ns : List ℕ) → (get (least p (map own ns)) ≡ get p) ⊎ Reached (get (least p (map own ns))) ns
  reached_later p [] = inl refl
  reached_later p (m ∷ ns) =
      elim (reached_later (lesser p (own m)) ns) [
        | inl e ↦ elim (one_of_two (get p) (get (own m))) [ inl a ↦ inl (e ∙ split p (own m) ∙ a) | inr b ↦ inr (m, (has_first m ns, e ∙ split p (own m) ∙ b)) ]
        | inr r ↦ inr (r.0, (has_later r.0 m ns r.1.0, r.1.1))
      ]

  reached : (n : ℕ) (ns : List ℕ) → Reached (get (smallest own (n ∷ ns))) (n ∷ ns)
  reached n ns = elim (reached_later (own n) ns) [ inl e ↦ (n, (has_first n ns, e)) | inr r ↦ (r.0, (has_later r.0 n ns r.1.0, r.1.1)) ]

smallest_is : (own : ℕ → Profile) (n : ℕ) (ns : List ℕ) → SmallestOf own (n ∷ ns) (smallest own (n ∷ ns))
smallest_is own n ns =
    record {
      below = λ m e. has_case m n ns (λ q. subst (λ j. AtMost (smallest own (n ∷ ns)) (own j)) q (least_first (own n) (map own ns))) (least_later own (own n) ns m) e;
      velocity_of = reached (λ p. p.velocity) own (λ p q. refl) n ns;
      acceleration_of = reached (λ p. p.acceleration) own (λ p q. refl) n ns;
      deceleration_of = reached (λ p. p.deceleration) own (λ p q. refl) n ns;
    }

abbrev Beaten : ℕ → Trail → Core → Type 0
Beaten most t k = (n : ℕ) × ((n ≤ most) × (t ≡ beats n k))

waited : (most : ℕ) (b : Bool) (done : Core → Bool) (k : Core) → Beaten most (wait most b done k) k
waited zero b done k = (0, (omega arith, refl))
waited (suc most) true done k = (0, (omega arith, refl))
waited (suc most) false done k =
    let j = (beat k).core in
    let h = waited most (done j) done j in
    let l = h.1.0 in
    (suc h.0, (omega arith, ap (λ (u : Trail). and_then (beat k) (λ i. u)) h.1.1))

pub words : Words
words = record { waits_are_beats = λ done k. waited 60000 (done k) done k; listed = listed; only_listed = only_listed; smallest_is = smallest_is }
