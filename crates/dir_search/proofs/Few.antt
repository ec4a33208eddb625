-- From what plans leave open to how few evaluations there are.
use Rattle.std.proofs.Common.{◌≡◌, ◌<◌, ◌≤◌, ℕ, length, Bool, true, false, cond, ◌||◌, List, [], ◌∷◌, Option, Some, None, map, nat_eq, nat_lt, refl, sym, ap, ◌∙◌, subst, eq-eqb, arith}
use Rattle.std.specs.Prelude.{is_some, filter, nat_le}
use Rattle.std.specs.List.{AllByRecursion, slice_get}
use Rattle.std.proofs.lemmas.Bool.{or_right}
use Rattle.std.proofs.lemmas.Bool.Decides.{nat_tests}
use Rattle.std.proofs.lemmas.List.Sums.{count_by-le-length, length-filter}
use Rattle.indexed_tree.specs.ldap_match.declared.truth.Truth.TheVariants.{True}
use Rattle.indexed_tree.specs.ldap_schema.Schema.{SchemaModel}
use Rattle.ldap_filter.specs.Tree.{Tree}
use Rattle.indexed_tree.specs.directory_api.ldap_msg.Messages.{SearchRequestValue}
use Rattle.ldap_eval.specs.Bound.{bound_value, IsBoundTo}
use Rattle.ldap_eval.specs.Made.{IsMadeOf}
use Rattle.ldap_eval.specs.declared.bound.BoundFilter.{BoundFilter}
use Rattle.indexed_tree.specs.index_choice.declared.kinds.Kinds.{Kinds}
use Rattle.indexed_tree.specs.dir_index.Postings.{has_number, IsRising}
use Rattle.indexed_tree.specs.dir_tree.Directory.{Entered, entry_at, numbers}
use Rattle.indexed_tree.specs.Directory.{NamedEntry}
use Rattle.indexed_tree.specs.Stored.{named, AreKeyedBy}
use Rattle.search_plans.specs.Bounds.{is_decided}
use Rattle.search_plans.specs.Planned.{ArePlansFor}
use Rattle.search_plans.specs.declared.plan.Plan.{Plan}
use Rattle.search_plans.specs.Runs.{is_true as is_true_value}
use Rattle.indexed_tree.specs.Listed.{listed_of}
use Rattle.dir_search.specs.Answer.{is_true, is_match, limited}
use Rattle.dir_search.specs.Counted.{first_past}
use Rattle.dir_search.specs.Looks.{value_on, value_in}
use Rattle.dir_search.specs.private.Looks.{IsBoundOn, true_numbers, has_runs_on, leaves_open_on, up_to, AreNumbersOf, AreHere, IsFew, LeavesFew}
use Rattle.dir_search.specs.private.Numbered.{put_some, entries_of}
use Rattle.dir_search.specs.Selection.{selected}
use Rattle.dir_search.specs.private.View.{ShowsFound, FindsAmong}
use Rattle.indexed_tree.specs.directory_api.declared.search_answer.SearchAnswer.{SearchAnswer}
use Rattle.dir_search.proofs.Limits.{keyed_at}

or_weaker : (a b b' : Bool) → (b ≡ true → b' ≡ true) → (a || b) ≡ true → (a || b') ≡ true
or_weaker true b b' f h = refl
or_weaker false b b' f h = f h

filter_short : (p : ℕ → Bool) (ks : List ℕ) → length (filter p ks) ≤ length ks
filter_short p ks = subst (λ (n : ℕ). n ≤ length ks) (sym (length-filter p ks)) (count_by-le-length p ks)

-- what passes a stronger test is no more
fewer : (p q : ℕ → Bool) (ks : List ℕ) → ((n : ℕ) → has_number n ks ≡ true → p n ≡ true → q n ≡ true) →
    length (filter p ks) ≤ length (filter q ks)
fewer p q [] h = omega arith
fewer p q (k ∷ ks) h =
    by (p k) (q k) (h k (ap (λ (b : Bool). b || has_number k ks) (eq-eqb k k refl)))
    (fewer p q ks (λ n i. h n (or_right (nat_eq n k) (has_number n ks) i)))
  where
    by : (a b : Bool) → (a ≡ true → b ≡ true) → length (filter p ks) ≤ length (filter q ks) →
        length (cond a (k ∷ filter p ks) (filter p ks)) ≤ length (cond b (k ∷ filter q ks) (filter q ks))
    by true true f r = omega arith
    by true false f r = absurd (cc (f refl))
    by false true f r = omega arith
    by false false f r = r

-- what nothing passes is empty
none_pass : (p : ℕ → Bool) (ks : List ℕ) → ((n : ℕ) → has_number n ks ≡ true → p n ≡ false) → length (filter p ks) ≡ 0
none_pass p [] h = refl
none_pass p (k ∷ ks) h =
    ap (λ (b : Bool). length (cond b (k ∷ filter p ks) (filter p ks)))
    (h k (ap (λ (b : Bool). b || has_number k ks) (eq-eqb k k refl)))
    ∙ none_pass p ks (λ n i. h n (or_right (nat_eq n k) (has_number n ks) i))

filter_less : (q : ℕ → Bool) (ks : List ℕ) (n : ℕ) → has_number n (filter q ks) ≡ true → has_number n ks ≡ true
filter_less q [] n h = h
filter_less q (k ∷ ks) n h = by (q k) (filter_less q ks n) h
  where
    by : (b : Bool) → (has_number n (filter q ks) ≡ true → has_number n ks ≡ true) →
        has_number n (cond b (k ∷ filter q ks) (filter q ks)) ≡ true → (nat_eq n k || has_number n ks) ≡ true
    by true ih h = or_weaker (nat_eq n k) (has_number n (filter q ks)) (has_number n ks) ih h
    by false ih h = or_right (nat_eq n k) (has_number n ks) (ih h)

-- two tests in either order
either_order : (p q : ℕ → Bool) (ks : List ℕ) → filter q (filter p ks) ≡ filter p (filter q ks)
either_order p q [] = refl
either_order p q (k ∷ ks) = by (p k) (q k) refl refl (either_order p q ks)
  where
    by : (a b : Bool) → p k ≡ a → q k ≡ b → filter q (filter p ks) ≡ filter p (filter q ks) →
        filter q (cond a (k ∷ filter p ks) (filter p ks)) ≡ filter p (cond b (k ∷ filter q ks) (filter q ks))
    by true true pa qb ih = rw (qb, pa) (ap (λ (l : List ℕ). k ∷ l) ih)
    by true false pa qb ih = rw qb ih
    by false true pa qb ih = rw pa ih
    by false false pa qb ih = ih

module _ (open_at : ℕ → Bool) (ix : List Kinds) (b : BoundFilter) (d : List Entered) (ks : List ℕ) (tests : ℕ) where
  parts_few : (fs : List BoundFilter) → tests ≤ length (filter open_at ks)
      → ((n : ℕ) → has_number n ks ≡ true → open_at n ≡ true → AllByRecursion (λ f. is_decided ix f ≡ true →
      value_in f d n ≡ True) fs)
      → AllByRecursion (λ f. is_decided ix f ≡ true → tests ≤ length (true_numbers f d ks)) fs
  parts_few [] few h = tt
  parts_few (f ∷ fs) few h = (
    λ decided.
        let le : length (filter open_at ks) ≤ length (true_numbers f d ks) = fewer open_at
        (λ n. is_true_value (value_in f d n)) ks (λ n i o. ap is_true_value ((h n i o).0 decided)) in
        omega arith,
    parts_few fs few (λ n i o. (h n i o).1),
  )

  -- no more evaluations than there are numbers left open are few
  pub is_few : LeavesFew open_at ix b d ks → tests ≤ length (filter open_at ks) → IsFew ix b d ks tests
  is_few leaves few =
      let short : length (filter open_at ks) ≤ length ks = filter_short open_at ks in
      let by_runs : length (filter open_at ks) ≤ length (filter (λ n. has_runs_on ix b (entry_at n d)) ks) =
      fewer open_at (λ n. has_runs_on ix b (entry_at n d)) ks leaves.runs in
      record {
        within = omega arith;
        decided = λ is.
            let none : length (filter open_at ks) ≡ 0 = none_pass open_at ks (leaves.decided is) in
            omega arith;
        parts = λ v is. parts_few v.items few (leaves.parts v is);
        runs = omega arith;
      }

-- the same of those numbers that pass a test
up_to_open : (q open_at : ℕ → Bool) (ix : List Kinds) (b : BoundFilter) (d : List Entered) (ks : List ℕ) →
    LeavesFew open_at ix b d ks → LeavesFew open_at ix b d (filter q ks)
up_to_open q open_at ix b d ks leaves = record {
  decided = λ is n i. leaves.decided is n (filter_less q ks n i);
  parts = λ v is n i o. leaves.parts v is n (filter_less q ks n i) o;
  runs = λ n i o. leaves.runs n (filter_less q ks n i) o;
}

-- each number that is found has an entry
pub true_here : (b : BoundFilter) (d : List Entered) (ks : List ℕ) → AreHere d (true_numbers b d ks)
true_here b d [] = tt
true_here b d (k ∷ ks) = by (entry_at k d) refl (true_here b d ks)
  where
    by : (o : Option Entered) → entry_at k d ≡ o → AreHere d (true_numbers b d ks) →
        AreHere d (cond (is_true_value (value_on b o)) (k ∷ true_numbers b d ks) (true_numbers b d ks))
    by None e ih = ih
    by (Some x) e ih = elim (is_true_value (bound_value x.name x.entry b))
        as (λ v. AreHere d (cond v (k ∷ true_numbers b d ks) (true_numbers b d ks)))
        [ true ↦ (ap is_some e, ih) | false ↦ ih ]

-- numbers of some of the entries rise, as those of all do
all_numbers : (P : ℕ → Type 0) (p : Entered → Bool) (d : List Entered) →
    AllByRecursion P (map (λ e. e.number) (listed_of d)) → AllByRecursion P (numbers p d)
all_numbers P p [] h = tt
all_numbers P p (e ∷ es) h = by (p e) (all_numbers P p es h.1)
  where
    by : (b : Bool) → AllByRecursion P (numbers p es) →
        AllByRecursion P (cond b (e.number ∷ numbers p es) (numbers p es))
    by true ih = (h.0, ih)
    by false ih = ih

numbers_rise : (p : Entered → Bool) (d : List Entered) → IsRising (map (λ e. e.number) (listed_of d)) →
    IsRising (numbers p d)
numbers_rise p [] h = tt
numbers_rise p (e ∷ es) h = by (p e) (numbers_rise p es h.1)
  where
    by : (b : Bool) → IsRising (numbers p es) → IsRising (cond b (e.number ∷ numbers p es) (numbers p es))
    by true ih = (all_numbers (λ y. e.number < y) p es h.0, ih)
    by false ih = ih

pub scope_rises : (ks : List ℕ) (d : List Entered) → AreNumbersOf ks d →
    IsRising (map (λ e. e.number) (listed_of d)) → IsRising ks
scope_rises ks d sel h = subst IsRising (sym sel.1) (numbers_rise sel.0 d h)

-- A bound filter that stands for a filter stands for it on entries that are keyed.
pub bound_on : (s : SchemaModel) (t : Tree) (b : BoundFilter) (d : List Entered) → AreKeyedBy s d → IsBoundTo s t b →
    IsBoundOn s t b d
bound_on s t b d keyed stands k e is = ap is_true (stands e.name e.entry (keyed_at s d k e keyed is))

-- The entries of the numbers that are found are those that match.
pub found_true : (s : SchemaModel) (t : Tree) (b : BoundFilter) (d : List Entered) → IsBoundOn s t b d → (ks : List ℕ)
    → map named (entries_of (true_numbers b d ks) d) ≡ filter (is_match s t) (map named (entries_of ks d))
found_true s t b d same [] = refl
found_true s t b d same (k ∷ ks) = by (entry_at k d) refl (found_true s t b d same ks)
  where
    found : List ℕ
    found = true_numbers b d ks

    matching : List NamedEntry
    matching = filter (is_match s t) (map named (entries_of ks d))

    told : (x : Entered) → entry_at k d ≡ Some x → map named (entries_of found d) ≡ matching → (v : Bool) →
        map named (entries_of (cond v (k ∷ found) found) d) ≡ cond v (named x ∷ matching) matching
    told x e ih true = ap (λ (o : Option Entered). map named (put_some o (entries_of found d))) e
        ∙ ap (λ (l : List NamedEntry). named x ∷ l) ih
    told x e ih false = ih

    by : (o : Option Entered) → entry_at k d ≡ o → map named (entries_of found d) ≡ matching
        → map named (entries_of (cond (is_true (value_on b o)) (k ∷ found) found) d) ≡ filter (is_match s t)
        (map named (put_some o (entries_of ks d)))
    by None e ih = ih
    by (Some x) e ih = told x e ih (is_true (bound_value x.name x.entry b))
        ∙ ap (λ (v : Bool). cond v (named x ∷ matching) matching) (same k x e)

-- two tests that are alike on these numbers
alike_here : (p q : ℕ → Bool) (ks : List ℕ) → ((n : ℕ) → has_number n ks ≡ true → p n ≡ q n) → filter p ks ≡ filter q ks
alike_here p q [] h = refl
alike_here p q (k ∷ ks) h =
    let own : (nat_eq k k || has_number k ks) ≡ true = ap (λ (b : Bool). b || has_number k ks) (eq-eqb k k refl) in
    ap (λ (b : Bool). cond b (k ∷ filter p ks) (filter p ks)) (h k own)
    ∙ ap (λ (l : List ℕ). cond (q k) (k ∷ l) l)
    (alike_here p q ks (λ n i. h n (or_right (nat_eq n k) (has_number n ks) i)))

up_to_short : (o : Option ℕ) (ks : List ℕ) → length (up_to o ks) ≤ length ks
up_to_short None ks = omega arith
up_to_short (Some m) ks = filter_short (λ n. nat_le n m) ks

up_to_order : (p : ℕ → Bool) (o : Option ℕ) (ks : List ℕ) → up_to o (filter p ks) ≡ filter p (up_to o ks)
up_to_order p None ks = refl
up_to_order p (Some m) ks = either_order p (λ n. nat_le n m) ks

up_to_less : (o : Option ℕ) (ks : List ℕ) (n : ℕ) → has_number n (up_to o ks) ≡ true → has_number n ks ≡ true
up_to_less None ks n h = h
up_to_less (Some m) ks n h = filter_less (λ k. nat_le k m) ks n h

-- the first past the limit that is set
past_is : (limit : ℕ) (ks : List ℕ) (m : ℕ) → 0 < limit → slice_get ks limit ≡ Some m → first_past limit ks ≡ Some m
past_is limit ks m pos past =
    let set : nat_lt 0 limit ≡ true = grind (arith, nat_tests) in
    ap (λ (b : Bool). cond b (slice_get ks limit) None) set ∙ past

-- What is shown of the numbers that are found is what a search finds among the entries.
module _ (a : SearchAnswer) (s : SchemaModel) (q : SearchRequestValue) (ix : List Kinds) (b : BoundFilter)
    (d : List Entered) (ks : List ℕ) (open_at : ℕ → Bool) (must may : Plan) where
  pub among : IsBoundOn s q.filter b d → LeavesFew open_at ix b d ks → ((m : SchemaModel) (t : Tree) →
      IsBoundTo m t b → IsMadeOf m t b → ArePlansFor m ix t must may)
      → ((n : ℕ) → has_number n ks ≡ true → open_at n ≡ leaves_open_on ix must may (entry_at n d))
      → ShowsFound a (selected s q.attributes q.types_only) q.size_limit d (true_numbers b d ks) (filter open_at ks) →
      FindsAmong a s q ix b d ks
  among bound leaves plans told shows =
      let o : Option ℕ = first_past q.size_limit (true_numbers b d ks) in
      let short : length (up_to o (filter open_at ks)) ≤ length (filter open_at ks) = up_to_short o
      (filter open_at ks) in
      let same : a.tests ≡ length (up_to o (filter open_at ks)) = shows.counted in
      record {
        shown = shows.shown ∙ ap (λ (l : List NamedEntry). limited q.size_limit
            (map (selected s q.attributes q.types_only) l)) (found_true s q.filter b d bound ks);
        few = is_few open_at ix b d ks a.tests leaves (omega arith);
        few_up_to = λ m pos past.
            let up : a.tests ≡ length (filter open_at (filter (λ n. nat_le n m) ks)) =
            same ∙ ap (λ (x : Option ℕ). length (up_to x (filter open_at ks)))
            (past_is q.size_limit (true_numbers b d ks) m pos past)
            ∙ ap length (either_order open_at (λ n. nat_le n m) ks) in
            is_few open_at ix b d (filter (λ n. nat_le n m) ks) a.tests (up_to_open (λ n. nat_le n m) open_at ix b d
            ks leaves) (omega arith);
        counted = record {
          must = must;
          may = may;
          plans = plans;
          counted =
              same ∙ ap length (up_to_order open_at o ks)
              ∙ ap length (alike_here open_at (λ n. leaves_open_on ix must may (entry_at n d)) (up_to o ks)
              (λ n i. told n (up_to_less o ks n i)));
        };
      }
