-- Success shows exactly what was asked for.
use Rattle.std.proofs.Common.{◌≡◌, ℕ, suc, arith, List, [], ◌∷◌, map, filter, length, take, nat_lt, Bool, true, false, cond, ◌&&◌, inl, inr, Option, Some, refl, sym, ap, ◌∙◌, subst, true≢false}
use Rattle.std.proofs.lemmas.Bool.{and_from, and_parts}
use Rattle.state_machine.specs.dir_store.ldap_dn.Names.{RdnModel, rdns}
use Rattle.state_machine.specs.dir_store.ldap_dn.Texts.{name_of_text}
use Rattle.dir_search.specs.indexed_tree.Directory.{Directory, NamedEntry}
use Rattle.state_machine.specs.dir_store.Order.{NumbersAbove, NumbersAreRising}
use Rattle.state_machine.specs.dir_store.Updates.{directory_of}
use Rattle.dir_search.specs.indexed_tree.Replies.{not_found}
use Rattle.dir_search.specs.directory_api.Answers.{only}
use Rattle.state_machine.proofs.dir_store.Rises.{entries_rise}
use Rattle.dir_search.specs.ldap_msg.Messages.{SearchRequestValue, SearchResultEntryValue}
use Rattle.dir_search.specs.Answer.{answer_of, found_at, limited, matching, dse_matching, in_scope, is_match, is_subordinate, stands}
use Rattle.dir_search.specs.directory_api.Answers.{Answer, refused}
use Rattle.dir_lab.specs.Exact.{IsAmong, AreExactly, is_of_root_dse, SuccessIsExact}
use Rattle.dir_search.specs.Scopes.{is_in_scope}
use Rattle.dir_search.specs.Selection.{selected}

-- what a filter of a list keeps: nothing is added
above_filter : (p : NamedEntry → Bool) (k : ℕ) (es : List NamedEntry) → NumbersAbove k es → NumbersAbove k (filter p es)
above_filter p k [] h = tt
above_filter p k (e ∷ es) h = by (p e) (above_filter p k es h.1)
  where
    by : (b : Bool) → NumbersAbove k (filter p es) → NumbersAbove k (cond b (e ∷ filter p es) (filter p es))
    by true ih = (h.0, ih)
    by false ih = ih

-- the order,
rising_filter : (p : NamedEntry → Bool) (es : List NamedEntry) → NumbersAreRising es → NumbersAreRising (filter p es)
rising_filter p [] h = tt
rising_filter p (e ∷ es) h = by (p e) (rising_filter p es h.1)
  where
    by : (b : Bool) → NumbersAreRising (filter p es) → NumbersAreRising (cond b (e ∷ filter p es) (filter p es))
    by true ih = (above_filter p e.number es h.0, ih)
    by false ih = ih

-- what passes,
among_filter : (p : NamedEntry → Bool) (e : NamedEntry) (es : List NamedEntry) → IsAmong e (filter p es) →
    IsAmong e es × (p e ≡ true)
among_filter p e [] h = absurd h
among_filter p e (f ∷ fs) h = by (p f) refl h (λ i. among_filter p e fs i)
  where
    by : (b : Bool) → p f ≡ b → IsAmong e (cond b (f ∷ filter p fs) (filter p fs)) →
        (IsAmong e (filter p fs) → IsAmong e fs × (p e ≡ true)) → IsAmong e (f ∷ fs) × (p e ≡ true)
    by true is (inl same) ih = (inl same, ap p same ∙ is)
    by true is (inr i) ih = let r = ih i in (inr r.0, r.1)
    by false is i ih = let r = ih i in (inr r.0, r.1)

-- and all of it
filter_among : (p : NamedEntry → Bool) (e : NamedEntry) (es : List NamedEntry) → IsAmong e es → p e ≡ true →
    IsAmong e (filter p es)
filter_among p e [] h is = absurd h
filter_among p e (f ∷ fs) (inl same) is = subst (λ b. IsAmong e (cond b (f ∷ filter p fs) (filter p fs)))
    (sym (ap p (sym same) ∙ is)) (inl same)
filter_among p e (f ∷ fs) (inr h) is = by (p f) (filter_among p e fs h is)
  where
    by : (b : Bool) → IsAmong e (filter p fs) → IsAmong e (cond b (f ∷ filter p fs) (filter p fs))
    by true i = inr i
    by false i = i

-- the matching entries are exactly those that are asked for
are_exactly : (d : Directory) (q : SearchRequestValue) (base : List RdnModel) → NumbersAreRising d.entries →
    AreExactly d q base (map (selected d.schema q.attributes q.types_only) (matching d q base))
are_exactly d q base rising = record {
  entries = matching d q base;
  are_shown = refl;
  rising = rising_filter (is_match d.schema q.filter) (in_scope d q.scope base) (rising_filter scoped d.entries rising);
  sound = λ e i. let m = among_filter (is_match d.schema q.filter) e (in_scope d q.scope base) i in let s =
      among_filter scoped e d.entries m.0 in (s.0, and_from (scoped e) (is_match d.schema q.filter e) s.1 m.1);
  complete = λ e i asked. let t = and_parts (scoped e) (is_match d.schema q.filter e) asked in
      filter_among (is_match d.schema q.filter) e (in_scope d q.scope base) (filter_among scoped e d.entries i t.0) t.1;
}
  where
    scoped : NamedEntry → Bool
    scoped e = is_in_scope (rdns d.suffix) q.scope (rdns base) (rdns e.name)

-- a code that is no success
no_success : {A : Type 0} (k : ℕ) → suc k ≡ 0 → A
no_success k e = absurd (omega (arith, e))

-- all that is shown, and what is shown of it up to the limit
abbrev whole : List SearchResultEntryValue → Answer
whole shown = record { code = 0; matched = []; entries = shown }

abbrev cut : ℕ → List SearchResultEntryValue → Answer
cut limit shown = record { code = 4; matched = []; entries = take limit shown }

-- an answer of entries with success is whole
if_limited : (d : Directory) (q : SearchRequestValue) (base : List RdnModel) (shown : List SearchResultEntryValue) →
    AreExactly d q base shown
    → (limited q.size_limit shown).code ≡ 0 → AreExactly d q base (limited q.size_limit shown).entries
if_limited d q base shown h = by (nat_lt 0 q.size_limit && nat_lt q.size_limit (length shown))
  where
    by : (b : Bool) → (cond {A = Answer} b (cut q.size_limit shown) (whole shown)).code ≡ 0 →
        AreExactly d q base (cond {A = Answer} b (cut q.size_limit shown) (whole shown)).entries
    by true e = no_success 3 e
    by false e = h

-- an answer at a base
if_stands : (d : Directory) (q : SearchRequestValue) (base : List RdnModel) → NumbersAreRising d.entries
    → (b : Bool) → (cond {A = Answer} b (found_at d q base) (refused (not_found d base))).code ≡ 0 →
    AreExactly d q base (cond {A = Answer} b (found_at d q base) (refused (not_found d base))).entries
if_stands d q base rising true e = if_limited d q base (map (selected d.schema q.attributes q.types_only)
    (matching d q base)) (are_exactly d q base rising) e
if_stands d q base rising false e = no_success 31 e

-- an answer at a base that is not that of the root DSE
if_root : (d : Directory) (q : SearchRequestValue) (base : List RdnModel) → NumbersAreRising d.entries → (b : Bool) →
    b ≡ false
    → (cond {A = Answer} b (record { code = 0; matched = []; entries = dse_matching d q })
    (cond (stands d base) (found_at d q base) (refused (not_found d base)))).code ≡ 0
    → AreExactly d q base (cond {A = Answer} b (record { code = 0; matched = []; entries = dse_matching d q })
    (cond (stands d base) (found_at d q base) (refused (not_found d base)))).entries
if_root d q base rising true other e = absurd (true≢false other)
if_root d q base rising false other e = if_stands d q base rising (stands d base) e

-- an answer at the base of a text
of_name : (d : Directory) (q : SearchRequestValue) (base : List RdnModel) (o : Option (List RdnModel)) →
    NumbersAreRising d.entries → o ≡ Some base → is_of_root_dse q base ≡ false
    → (answer_of d q o).code ≡ 0 → AreExactly d q base (answer_of d q o).entries
of_name d q base o rising is other =
    subst (λ (x : Option (List RdnModel)). (answer_of d q x).code ≡ 0 → AreExactly d q base (answer_of d q x).entries)
    (sym is)
    (λ e. if_root d q base rising (is_of_root_dse q base) other e)

-- an answer
if_scope : (d : Directory) (q : SearchRequestValue) (base : List RdnModel) → NumbersAreRising d.entries → (b : Bool)
    → (cond {A = Answer} b (refused (only 2)) (answer_of d q (name_of_text d.schema q.base))).code ≡ 0 →
    name_of_text d.schema q.base ≡ Some base → is_of_root_dse q base ≡ false
    → AreExactly d q base (cond {A = Answer} b (refused (only 2))
    (answer_of d q (name_of_text d.schema q.base))).entries
if_scope d q base rising true e is other = no_success 1 e
if_scope d q base rising false e is other = of_name d q base (name_of_text d.schema q.base) rising is other e

pub success_is_exact : SuccessIsExact
success_is_exact s root ops q = record {
  exact = λ base e is other. if_scope (directory_of s root ops) q base
      (entries_rise s root ops) (is_subordinate q.scope) e is other;
}
