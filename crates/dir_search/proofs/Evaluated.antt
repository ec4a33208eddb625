-- Few evaluations over the numbers of entries are few over the entries.
use Rattle.std.proofs.Common.{◌≡◌, ◌≤◌, ℕ, suc, Bool, true, false, cond, List, [], ◌∷◌, Option, Some, None, length, map, filter, nat_eq, nat_lt, refl, sym, ap, ◌∙◌, subst, eqb-true, eq-eqb}
use Rattle.std.specs.Prelude.{is_some, nat_le}
use Rattle.std.specs.Option.{option_map}
use Rattle.std.specs.List.{AllByRecursion, slice_get}
use Rattle.std.proofs.lemmas.List.{length-map}
use Rattle.std.proofs.lemmas.Option.{slice_get-map}
use Rattle.indexed_tree.specs.ldap_schema.Schema.{SchemaModel}
use Rattle.indexed_tree.specs.dir_entry.Entry.{attributes_of}
use Rattle.indexed_tree.specs.ldap_dn.Names.{RdnModel, rdns}
use Rattle.ldap_filter.specs.Tree.{Tree, Trees, no_trees, tree}
use Rattle.indexed_tree.specs.directory_api.ldap_msg.Messages.{SearchRequestValue}
use Rattle.ldap_eval.specs.Bound.{IsBoundTo}
use Rattle.ldap_eval.specs.Made.{IsMadeOf, AreMadeOf}
use Rattle.ldap_eval.specs.declared.bound.BoundFilter.{BoundFilter}
use Rattle.indexed_tree.specs.index_choice.declared.kinds.Kinds.{Kinds}
use Rattle.indexed_tree.specs.dir_tree.Directory.{Entered, TreeModel, NumbersRise, entry_at, numbers}
use Rattle.indexed_tree.specs.Directory.{NamedEntry}
use Rattle.indexed_tree.specs.Stored.{named, directory, AreKeyedBy}
use Rattle.search_plans.specs.Bounds.{is_decided as is_bound_decided}
use Rattle.search_plans.specs.Held.{has_runs}
use Rattle.search_plans.proofs.Decided.{decided_same, runs_same}
use Rattle.search_plans.proofs.HeldRuns.{TestsAreItems}
use Rattle.dir_search.specs.Answer.{is_match, in_scope, matching}
use Rattle.dir_search.specs.Counted.{leaves_open, first_past, keyed_in_scope, up_to_entry, IsCountAtBase}
use Rattle.dir_search.specs.Evaluated.{IsFewOf, IsWithinParts, IsFewAtBase}
use Rattle.dir_search.specs.private.Looks.{true_numbers, has_runs_on, leaves_open_on, up_to, AreHere, IsFew, numbers_in_scope}
use Rattle.dir_search.specs.private.Numbered.{put_some, entries_of}
use Rattle.dir_search.specs.Scopes.{is_in_scope}
use Rattle.dir_search.specs.private.View.{FindsAmong}
use Rattle.indexed_tree.specs.directory_api.declared.search_answer.SearchAnswer.{SearchAnswer}
use Rattle.dir_search.proofs.Few.{true_here, bound_on, found_true}
use Rattle.dir_search.proofs.Limits.{keyed_at}
use Rattle.dir_search.proofs.Numbers.{numbers_are}
use Rattle.dir_search.proofs.Scoped.{shown_filter}

-- each number with an entry gives one
here_counted : (d : List Entered) (ks : List ℕ) → AreHere d ks → length (entries_of ks d) ≡ length ks
here_counted d [] h = refl
here_counted d (k ∷ ks) h = by (entry_at k d) h.0 (here_counted d ks h.1)
  where
    by : (o : Option Entered) → is_some o ≡ true → length (entries_of ks d) ≡ length ks →
        length (put_some o (entries_of ks d)) ≡ length (k ∷ ks)
    by None here ih = absurd (cc here)
    by (Some e) here ih = ap (λ (n : ℕ). suc n) ih

-- a test of the entries of numbers passes as many numbers as entries
tested : (P : Option Entered → Bool) → P None ≡ false → (d : List Entered) (ks : List ℕ) →
    length (filter (λ n. P (entry_at n d)) ks) ≡ length (filter (λ e. P (Some e)) (entries_of ks d))
tested P none d [] = refl
tested P none d (k ∷ ks) = by (entry_at k d) (tested P none d ks)
  where
    either : (b : Bool) (e : Entered) (xs : List ℕ) (ys : List Entered) → length xs ≡ length ys →
        length (cond b (k ∷ xs) xs) ≡ length (cond b (e ∷ ys) ys)
    either true e xs ys ih = ap (λ (n : ℕ). suc n) ih
    either false e xs ys ih = ih

    by : (o : Option Entered) → length (filter (λ n. P (entry_at n d)) ks) ≡
        length (filter (λ e. P (Some e)) (entries_of ks d))
        → length (cond (P o) (k ∷ filter (λ n. P (entry_at n d)) ks) (filter (λ n. P (entry_at n d)) ks)) ≡
        length (filter (λ e. P (Some e)) (put_some o (entries_of ks d)))
    by None ih = ap (λ (b : Bool). length (cond b (k ∷ filter (λ n. P (entry_at n d)) ks)
        (filter (λ n. P (entry_at n d)) ks))) none ∙ ih
    by (Some e) ih = either (P (Some e)) e (filter (λ n. P (entry_at n d)) ks)
        (filter (λ e. P (Some e)) (entries_of ks d)) ih

-- as many numbers are found as entries match
true_counted : (s : SchemaModel) (t : Tree) (b : BoundFilter) (d : List Entered) (ks : List ℕ) → AreKeyedBy s d →
    IsBoundTo s t b → length (true_numbers b d ks) ≡ length (filter (is_match s t) (map named (entries_of ks d)))
true_counted s t b d ks keyed stands =
    sym (here_counted d (true_numbers b d ks) (true_here b d ks))
    ∙ sym (length-map (entries_of (true_numbers b d ks) d) named)
    ∙ ap length (found_true s t b d (bound_on s t b d keyed stands) ks)

-- as many numbers' entries hold the runs that a bound filter asks for as hold those that its filter asks for
module _ (law : TestsAreItems) (s : SchemaModel) (ix : List Kinds) (d : List Entered) (t : Tree) (b : BoundFilter) where
  runs_counted : AreKeyedBy s d → IsMadeOf s t b → (ks : List ℕ) →
      length (filter (λ n. has_runs_on ix b (entry_at n d)) ks) ≡
      length (filter (λ (e : NamedEntry). has_runs s ix e.attributes t) (map named (entries_of ks d)))
  runs_counted keyed made [] = refl
  runs_counted keyed made (k ∷ ks) = by (entry_at k d) refl (runs_counted keyed made ks)
    where
      xs : List ℕ
      xs = filter (λ n. has_runs_on ix b (entry_at n d)) ks

      ys : List NamedEntry
      ys = filter (λ (e : NamedEntry). has_runs s ix e.attributes t) (map named (entries_of ks d))

      either : (v : Bool) (e : NamedEntry) → length xs ≡ length ys → length (cond v (k ∷ xs) xs) ≡
          length (cond v (e ∷ ys) ys)
      either true e ih = ap (λ (n : ℕ). suc n) ih
      either false e ih = ih

      by : (o : Option Entered) → entry_at k d ≡ o → length xs ≡ length ys
          → length (cond (has_runs_on ix b o) (k ∷ xs) xs) ≡
          length (filter (λ (e : NamedEntry). has_runs s ix e.attributes t)
          (map named (put_some o (entries_of ks d))))
      by None is ih = ih
      by (Some e) is ih =
          ap (λ (v : Bool). length (cond v (k ∷ xs) xs)) (runs_same law s ix e.entry (keyed_at s d k e keyed is) t b
          made) ∙ either (has_runs s ix (attributes_of e.entry) t) (named e) ih

module _ (law : TestsAreItems) (s : SchemaModel) (ix : List Kinds) (d : List Entered) (ks : List ℕ) (tests : ℕ) where
  parts_of : (ts : Trees) (bs : List BoundFilter) → AreKeyedBy s d → AreMadeOf s ts bs →
      AllByRecursion (λ f. is_bound_decided ix f ≡ true → tests ≤ length (true_numbers f d ks)) bs
      → IsWithinParts s ix ts (map named (entries_of ks d)) tests
  parts_of no_trees [] keyed h g = tt
  parts_of no_trees (b ∷ bs) keyed h g = absurd h
  parts_of (tree t ts) [] keyed h g = absurd h
  parts_of (tree t ts) (b ∷ bs) keyed h g = (
    λ is. subst (λ (n : ℕ). tests ≤ n) (true_counted s t b d ks keyed h.0) (g.0 (decided_same law s ix t b h.1 ∙ is)),
    parts_of ts bs keyed h.2 g.1,
  )

  -- few of the numbers are few of the entries
  few_of : (t : Tree) (b : BoundFilter) → AreKeyedBy s d → IsMadeOf s t b → AreHere d ks → IsFew ix b d ks tests →
      IsFewOf s ix t (map named (entries_of ks d)) tests
  few_of t b keyed made here h = record {
    within = subst (λ (n : ℕ). tests ≤ n) (sym (length-map (entries_of ks d) named ∙ here_counted d ks here)) h.within;
    decided = λ is. h.decided (decided_same law s ix t b made ∙ is);
    parts = λ ts is.
        let o = subst (λ (x : Tree). IsMadeOf s x b) is made in
        parts_of ts o.parts.items keyed o.hold (h.parts o.parts o.is);
    runs = subst (λ (n : ℕ). tests ≤ n) (runs_counted law s ix d t b keyed made ks) h.runs;
  }

-- ---- the numbers in scope

here_more : (e : Entered) (d : List Entered) (ks : List ℕ) → AreHere d ks → AreHere (e ∷ d) ks
here_more e d [] h = tt
here_more e d (k ∷ ks) h = (by (nat_eq k e.number) h.0, here_more e d ks h.1)
  where
    by : (b : Bool) → is_some (entry_at k d) ≡ true → is_some (cond b (Some e) (entry_at k d)) ≡ true
    by true h = refl
    by false h = h

numbers_here : (p : Entered → Bool) (d : List Entered) → AreHere d (numbers p d)
numbers_here p [] = tt
numbers_here p (e ∷ es) = by (p e) (here_more e es (numbers p es) (numbers_here p es))
  where
    own : is_some (entry_at e.number (e ∷ es)) ≡ true
    own = ap (λ (b : Bool). is_some (cond b (Some e) (entry_at e.number es))) (eq-eqb e.number e.number refl)

    by : (b : Bool) → AreHere (e ∷ es) (numbers p es) →
        AreHere (e ∷ es) (cond b (e.number ∷ numbers p es) (numbers p es))
    by true ih = (own, ih)
    by false ih = ih

filter_here : (r : ℕ → Bool) (d : List Entered) (ks : List ℕ) → AreHere d ks → AreHere d (filter r ks)
filter_here r d [] h = tt
filter_here r d (k ∷ ks) h = by (r k) (filter_here r d ks h.1)
  where
    by : (b : Bool) → AreHere d (filter r ks) → AreHere d (cond b (k ∷ filter r ks) (filter r ks))
    by true ih = (h.0, ih)
    by false ih = ih

-- the entry of a number has it
number_at : (k : ℕ) (d : List Entered) (x : Entered) → entry_at k d ≡ Some x → x.number ≡ k
number_at k [] x h = absurd (cc h)
number_at k (e ∷ es) x h = by (nat_eq k e.number) refl (λ g. number_at k es x g) h
  where
    by : (b : Bool) → nat_eq k e.number ≡ b → (entry_at k es ≡ Some x → x.number ≡ k) →
        cond b (Some e) (entry_at k es) ≡ Some x → x.number ≡ k
    by true f ih g = let same : e ≡ x = cc g in sym (ap (λ (y : Entered). y.number) same) ∙ sym (eqb-true k e.number f)
    by false f ih g = ih g

-- a test of numbers is one of the entries that have them
number_tested : (r : ℕ → Bool) (d : List Entered) (ks : List ℕ) → AreHere d ks → entries_of (filter r ks) d ≡
    filter (λ e. r e.number) (entries_of ks d)
number_tested r d [] h = refl
number_tested r d (k ∷ ks) h = by (entry_at k d) refl h.0 (number_tested r d ks h.1)
  where
    either : (b : Bool) (e : Entered) → entry_at k d ≡ Some e → entries_of (filter r ks) d ≡ filter (λ x. r x.number)
        (entries_of ks d)
        → entries_of (cond b (k ∷ filter r ks) (filter r ks)) d ≡
        cond b (e ∷ filter (λ x. r x.number) (entries_of ks d)) (filter (λ x. r x.number) (entries_of ks d))
    either true e is ih = ap (λ (o : Option Entered). put_some o (entries_of (filter r ks) d)) is
        ∙ ap (λ (l : List Entered). e ∷ l) ih
    either false e is ih = ih

    by : (o : Option Entered) → entry_at k d ≡ o → is_some o ≡ true → entries_of (filter r ks) d ≡
        filter (λ x. r x.number) (entries_of ks d)
        → entries_of (cond (r k) (k ∷ filter r ks) (filter r ks)) d ≡ filter (λ x. r x.number)
        (put_some o (entries_of ks d))
    by None is here ih = absurd (cc here)
    by (Some e) is here ih =
        either (r k) e is ih
        ∙ ap (λ (n : ℕ). cond (r n) (e ∷ filter (λ x. r x.number) (entries_of ks d))
        (filter (λ x. r x.number) (entries_of ks d))) (sym (number_at k d e is))

-- the numbers of the entries of numbers
numbers_of : (d : List Entered) (ks : List ℕ) → AreHere d ks → map (λ (e : NamedEntry). e.number)
    (map named (entries_of ks d)) ≡ ks
numbers_of d [] h = refl
numbers_of d (k ∷ ks) h = by (entry_at k d) refl h.0 (numbers_of d ks h.1)
  where
    by : (o : Option Entered) → entry_at k d ≡ o → is_some o ≡ true → map (λ (e : NamedEntry). e.number)
        (map named (entries_of ks d)) ≡ ks → map (λ (e : NamedEntry). e.number)
        (map named (put_some o (entries_of ks d))) ≡ k ∷ ks
    by None is here ih = absurd (cc here)
    by (Some e) is here ih = ap (λ (n : ℕ). n ∷ map (λ (e : NamedEntry). e.number) (map named (entries_of ks d)))
        (number_at k d e is) ∙ ap (λ (l : List ℕ). k ∷ l) ih

-- where a search ends, by number and by entry
past_mapped : (limit : ℕ) (es : List NamedEntry) → first_past limit (map (λ (x : NamedEntry). x.number) es) ≡
    option_map (λ (x : NamedEntry). x.number) (first_past limit es)
past_mapped limit es = by (nat_lt 0 limit)
  where
    by : (v : Bool) → cond v (slice_get (map (λ (x : NamedEntry). x.number) es) limit) None ≡
        option_map (λ (x : NamedEntry). x.number) (cond v (slice_get es limit) None)
    by true = slice_get-map (λ (x : NamedEntry). x.number) es limit
    by false = refl

up_to_same : (d : List Entered) (ks : List ℕ) → AreHere d ks → (o : Option NamedEntry) →
    entries_of (up_to (option_map (λ (x : NamedEntry). x.number) o) ks) d ≡ up_to_entry o (entries_of ks d)
up_to_same d ks here None = refl
up_to_same d ks here (Some m) = number_tested (λ n. nat_le n m.number) d ks here

module _ (s : SchemaModel) (tr : TreeModel) (q : SearchRequestValue) (ix : List Kinds) (b : BoundFilter)
    (base : List RdnModel) where
  scope_are : NumbersRise tr.entries → entries_of (numbers_in_scope (directory s tr) q base tr.entries) tr.entries ≡
      keyed_in_scope (directory s tr) q base tr.entries
  scope_are rise = numbers_are (λ e. is_in_scope (rdns tr.suffix) q.scope (rdns base) (rdns e.name)) tr.entries rise

  named_scope : NumbersRise tr.entries → map named (entries_of (numbers_in_scope (directory s tr) q base tr.entries)
      tr.entries) ≡ in_scope (directory s tr) q.scope base
  named_scope rise = ap (map named) (scope_are rise) ∙ shown_filter (λ e. is_in_scope (rdns tr.suffix) q.scope
      (rdns base) (rdns e.name)) tr.entries

  -- the entries that match have the numbers that are found
  matching_are : NumbersRise tr.entries → AreKeyedBy s tr.entries → IsBoundTo s q.filter b
      → map named (entries_of (true_numbers b tr.entries (numbers_in_scope (directory s tr) q base tr.entries))
      tr.entries) ≡ matching (directory s tr) q base
  matching_are rise keyed stands =
      found_true s q.filter b tr.entries (bound_on s q.filter b tr.entries keyed stands)
      (numbers_in_scope (directory s tr) q base tr.entries) ∙ ap (filter (is_match s q.filter)) (named_scope rise)

  numbers_found : NumbersRise tr.entries → AreKeyedBy s tr.entries → IsBoundTo s q.filter b
      → true_numbers b tr.entries (numbers_in_scope (directory s tr) q base tr.entries) ≡
      map (λ (x : NamedEntry). x.number) (matching (directory s tr) q base)
  numbers_found rise keyed stands =
      let ks = numbers_in_scope (directory s tr) q base tr.entries in
      sym (numbers_of tr.entries (true_numbers b tr.entries ks) (true_here b tr.entries ks))
      ∙ ap (map (λ (x : NamedEntry). x.number)) (matching_are rise keyed stands)

  number_past : NumbersRise tr.entries → AreKeyedBy s tr.entries → IsBoundTo s q.filter b → (e : NamedEntry) →
      slice_get (matching (directory s tr) q base) q.size_limit ≡ Some e
      → slice_get (true_numbers b tr.entries (numbers_in_scope (directory s tr) q base tr.entries)) q.size_limit ≡
      Some e.number
  number_past rise keyed stands e is =
      ap (λ (l : List ℕ). slice_get l q.size_limit) (numbers_found rise keyed stands)
      ∙ slice_get-map (λ (x : NamedEntry). x.number) (matching (directory s tr) q base) q.size_limit
      ∙ ap (option_map (λ (x : NamedEntry). x.number)) is

  scope_here : AreHere tr.entries (numbers_in_scope (directory s tr) q base tr.entries)
  scope_here = numbers_here (λ e. is_in_scope (rdns tr.suffix) q.scope (rdns base) (rdns e.name)) tr.entries

  -- few of the numbers in scope are few of the entries in scope
  pub few_at : (a : SearchAnswer) → TestsAreItems → NumbersRise tr.entries → AreKeyedBy s tr.entries →
      IsBoundTo s q.filter b → IsMadeOf s q.filter b
      → FindsAmong a s q ix b tr.entries (numbers_in_scope (directory s tr) q base tr.entries) →
      IsFewAtBase ix (directory s tr) q base a.tests
  few_at a law rise keyed stands made h =
      let ks = numbers_in_scope (directory s tr) q base tr.entries in
      record {
        few = subst (λ (l : List NamedEntry). IsFewOf s ix q.filter l a.tests) (named_scope rise)
            (few_of law s ix tr.entries ks a.tests q.filter b keyed made scope_here h.few);
        few_up_to = λ e pos is.
            subst (λ (l : List NamedEntry). IsFewOf s ix q.filter l a.tests)
            (ap (map named) (number_tested (λ n. nat_le n e.number) tr.entries ks scope_here)
            ∙ shown_filter (λ x. nat_le x.number e.number) (entries_of ks tr.entries)
            ∙ ap (filter (λ (x : NamedEntry). nat_le x.number e.number)) (named_scope rise))
            (few_of law s ix tr.entries (filter (λ n. nat_le n e.number) ks) a.tests q.filter b keyed made
            (filter_here (λ n. nat_le n e.number) tr.entries ks scope_here)
            (h.few_up_to e.number pos (number_past rise keyed stands e is)));
      }

  -- as many of the numbers in scope are left open as of the entries in scope
  pub count_at : (a : SearchAnswer) → NumbersRise tr.entries → AreKeyedBy s tr.entries → IsBoundTo s q.filter b →
      IsMadeOf s q.filter b
      → FindsAmong a s q ix b tr.entries (numbers_in_scope (directory s tr) q base tr.entries) →
      IsCountAtBase ix (directory s tr) q base a.tests
  count_at a rise keyed stands made h =
      let ks = numbers_in_scope (directory s tr) q base tr.entries in
      let must = h.counted.must in
      let may = h.counted.may in
      let past : Option NamedEntry = first_past q.size_limit (matching (directory s tr) q base) in
      let same : first_past q.size_limit (true_numbers b tr.entries ks) ≡ option_map (λ (x : NamedEntry). x.number)
      past =
      ap (first_past q.size_limit) (numbers_found rise keyed stands) ∙ past_mapped q.size_limit
      (matching (directory s tr) q base) in
      record {
        keyed_entries = tr.entries;
        are = refl;
        keyed = keyed;
        must = must;
        may = may;
        plans = h.counted.plans s q.filter stands made;
        counted =
            h.counted.counted ∙ ap (λ (o : Option ℕ).
            length (filter (λ n. leaves_open_on ix must may (entry_at n tr.entries)) (up_to o ks))) same
            ∙ tested (leaves_open_on ix must may) refl tr.entries
            (up_to (option_map (λ (x : NamedEntry). x.number) past) ks)
            ∙ ap (λ (es : List Entered). length (filter (λ e. leaves_open ix must may e.entry) es))
            (up_to_same tr.entries ks scope_here past ∙ ap (up_to_entry past) (scope_are rise));
      }
