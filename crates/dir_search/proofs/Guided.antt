-- Plans over the posting lists of a tree's entries guide a run over the numbers of some of them, and leave few open.
use Rattle.std.proofs.Common.{◌≡◌, ◌<◌, ℕ, Bool, true, false, cond, not, ◌||◌, ◌&&◌, List, [], ◌∷◌, Some, Vec, Global, map, nat_eq, refl, sym, ap, ap₂, ◌∙◌, subst, inl, inr, eqb-true}
use Rattle.std.specs.List.{AllByRecursion}
use Rattle.indexed_tree.specs.ldap_match.declared.truth.Truth.TheVariants.{True}
use Rattle.indexed_tree.specs.dir_entry.Entry.{KeyedAttribute}
use Rattle.indexed_tree.specs.ldap_dn.Names.{RdnModel}
use Rattle.ldap_eval.specs.Bound.{bound_value}
use Rattle.ldap_eval.specs.declared.bound.BoundFilter.{BoundFilter}
use Rattle.ldap_eval.specs.declared.bound.BoundFilter.TheVariants as bound
use Rattle.indexed_tree.specs.index_choice.declared.kinds.Kinds.{Kinds}
use Rattle.indexed_tree.specs.dir_index.Postings.{has_number, IsRising, postings_of}
use Rattle.indexed_tree.specs.dir_tree.Directory.{Entered, entry_at, numbers, AllAbove, NumbersRise}
use Rattle.indexed_tree.specs.Listed.{IndexedModel, listed_of, lists_of}
use Rattle.search_plans.specs.Sets.{is_in, holds, AreNumbered, HasEntry, Guides, SetsAreOfEntries}
use Rattle.search_plans.specs.declared.plan.Plan.{Plan}
use Rattle.search_plans.specs.Bounds.{is_decided, BoundsSets, DecidedAreTrue}
use Rattle.search_plans.specs.OctetRuns.{has_runs_for}
use Rattle.search_plans.specs.Runs.{is_open}
use Rattle.dir_search.specs.Looks.{value_on, value_in}
use Rattle.dir_search.specs.private.Looks.{has_runs_on, leaves_open_on, AreNumbersOf, LeavesFew}

above_listed : (k : ℕ) (d : List Entered) → AllAbove k d → AllByRecursion (λ y. k < y)
    (map (λ e. e.number) (listed_of d))
above_listed k [] h = tt
above_listed k (e ∷ d) h = (h.0, above_listed k d h.1)

-- the numbers of the entries rise, as indexes see them
pub numbers_rising : (d : List Entered) → NumbersRise d → IsRising (map (λ e. e.number) (listed_of d))
numbers_rising [] h = tt
numbers_rising (e ∷ d) h = (above_listed e.number d h.0, numbers_rising d h.1)

all_above : (k : ℕ) (d : List Entered) → AllAbove k d → AllByRecursion (λ e. k < e.number) (listed_of d)
all_above k [] h = tt
all_above k (e ∷ d) h = (h.0, all_above k d h.1)

are_numbered : (d : List Entered) → NumbersRise d → AreNumbered (listed_of d)
are_numbered [] h = tt
are_numbered (e ∷ d) h = (all_above e.number d h.0, are_numbered d h.1)

-- the entry of a number, as the tree and as the indexes see it
record IsEntryOf (d : List Entered) (n : ℕ) : Type 0 where
  entry : Entered
  found : entry_at n d ≡ Some entry
  listed : HasEntry (listed_of d) n entry.entry

number_rest : (n : ℕ) (p : Entered → Bool) (e : Entered) (es : List Entered) → nat_eq n e.number ≡ false →
    has_number n (numbers p (e ∷ es)) ≡ true → has_number n (numbers p es) ≡ true
number_rest n p e es apart h = by (p e) h
  where
    by : (b : Bool) → has_number n (cond b (e.number ∷ numbers p es) (numbers p es)) ≡ true →
        has_number n (numbers p es) ≡ true
    by true h = sym (ap (λ (b : Bool). b || has_number n (numbers p es)) apart) ∙ h
    by false h = h

entry_of : (n : ℕ) (p : Entered → Bool) (d : List Entered) → has_number n (numbers p d) ≡ true → IsEntryOf d n
entry_of n p [] h = absurd (cc h)
entry_of n p (e ∷ es) h =
    (elim (nat_eq n e.number) as (λ v. nat_eq n e.number ≡ v → IsEntryOf (e ∷ es) n) [
      | true ↦ λ is. record {
        entry = e;
        found = ap (λ (b : Bool). cond b (Some e) (entry_at n es)) is;
        listed = inl (sym (eqb-true n e.number is), refl);
      }
      | false ↦ λ is.
          let later : IsEntryOf es n = entry_of n p es (number_rest n p e es is h) in
          record {
            entry = later.entry;
            found = ap (λ (b : Bool). cond b (Some e) (entry_at n es)) is ∙ later.found;
            listed = inr later.listed;
          }
    ]) refl

entry_here : (ks : List ℕ) (d : List Entered) → AreNumbersOf ks d → (n : ℕ) → has_number n ks ≡ true → IsEntryOf d n
entry_here ks d sel n h = entry_of n sel.0 d (subst (λ (l : List ℕ). has_number n l ≡ true) sel.1 h)

-- the plans guide a run
pub guided : (t : IndexedModel) (b : BoundFilter) (must may : Plan) → NumbersRise t.tree.entries →
    ((m : List RdnModel) → BoundsSets t.indexes (λ e. bound_value m e b) True (is_decided t.indexes b) must may)
    → (ks : List ℕ) → AreNumbersOf ks t.tree.entries → Guides (is_in (lists_of t) ks must) (value_in b t.tree.entries)
    (is_in (lists_of t) ks may) ks
guided t b must may rise sets ks sel =
    let d = t.tree.entries in
    let num : AreNumbered (listed_of d) = are_numbered d rise in
    record {
      sound = λ n s h.
          let e : IsEntryOf d n = entry_here ks d sel n s in
          ap (value_on b) e.found ∙ (sets e.entry.name (listed_of d) ks n e.entry.entry num e.listed s).sound h;
      complete = λ n s h.
          let e : IsEntryOf d n = entry_here ks d sel n s in
          (sets e.entry.name (listed_of d) ks n e.entry.entry num e.listed s).complete (sym (ap (value_on b) e.found)
          ∙ h);
    }

closed : (must may : Bool) → (may ≡ true → must ≡ true) → (may && not must) ≡ false
closed must false h = refl
closed must true h = ap not (h refl)

may_of : (must may : Bool) → (may && not must) ≡ true → may ≡ true
may_of must true h = refl
may_of must false h = h

parts_at : (ix : List Kinds) (d : List Entered) (n : ℕ) (m : List RdnModel) (e : List KeyedAttribute) →
    ((f : BoundFilter) → value_in f d n ≡ bound_value m e f) → (fs : List BoundFilter) → DecidedAreTrue ix m e fs
    → AllByRecursion (λ f. is_decided ix f ≡ true → value_in f d n ≡ True) fs
parts_at ix d n m e same [] h = tt
parts_at ix d n m e same (f ∷ fs) h = (λ decided. same f ∙ h.0 decided, parts_at ix d n m e same fs h.1)

-- they leave few open
leaves : (ix : List Kinds) (b : BoundFilter) (d : List Entered) (must may : Plan) → SetsAreOfEntries →
    AreNumbered (listed_of d)
    → ((m : List RdnModel) → BoundsSets ix (λ e. bound_value m e b) True (is_decided ix b) must may)
    → ((v : Vec BoundFilter Global) → b ≡ bound.And v → (m : List RdnModel) (e : List KeyedAttribute) →
    holds ix e may ≡ true → DecidedAreTrue ix m e v.items)
    → ((e : List KeyedAttribute) → holds ix e may ≡ true → has_runs_for ix e b ≡ true)
    → (ks : List ℕ) → AreNumbersOf ks d
    → LeavesFew (is_open (is_in (postings_of ix (listed_of d)) ks must) (is_in (postings_of ix (listed_of d)) ks may))
    ix b d ks
leaves ix b d must may agree num sets parts runs ks sel =
    let es = listed_of d in
    let lists = postings_of ix es in
    let held : (n : ℕ) (x : IsEntryOf d n) → has_number n ks ≡ true → is_open (is_in lists ks must)
    (is_in lists ks may) n ≡ true → holds ix x.entry.entry may ≡ true =
    λ n x h o. sym (agree ix es ks n x.entry.entry may num x.listed h) ∙ may_of (is_in lists ks must n)
    (is_in lists ks may n) o in
    record {
      decided = λ yes_it_is n h.
          let x : IsEntryOf d n = entry_here ks d sel n h in
          closed (is_in lists ks must n) (is_in lists ks may n)
          ((sets x.entry.name es ks n x.entry.entry num x.listed h).exact yes_it_is);
      parts = λ v is n h o.
          let x : IsEntryOf d n = entry_here ks d sel n h in
          parts_at ix d n x.entry.name x.entry.entry (λ f. ap (value_on f) x.found) v.items
          (parts v is x.entry.name x.entry.entry (held n x h o));
      runs = λ n h o.
          let x : IsEntryOf d n = entry_here ks d sel n h in
          ap (has_runs_on ix b) x.found ∙ runs x.entry.entry (held n x h o);
    }

pub leaves_few : (t : IndexedModel) (b : BoundFilter) (must may : Plan) → SetsAreOfEntries → NumbersRise t.tree.entries
    → ((m : List RdnModel) → BoundsSets t.indexes (λ e. bound_value m e b) True (is_decided t.indexes b) must may)
    → ((v : Vec BoundFilter Global) → b ≡ bound.And v → (m : List RdnModel) (e : List KeyedAttribute) →
    holds t.indexes e may ≡ true → DecidedAreTrue t.indexes m e v.items)
    → ((e : List KeyedAttribute) → holds t.indexes e may ≡ true → has_runs_for t.indexes e b ≡ true)
    → (ks : List ℕ) → AreNumbersOf ks t.tree.entries →
    LeavesFew (is_open (is_in (lists_of t) ks must) (is_in (lists_of t) ks may)) t.indexes b t.tree.entries ks
leaves_few t b must may agree rise sets parts runs ks sel =
    leaves t.indexes b t.tree.entries must may agree (are_numbered t.tree.entries rise) sets parts runs ks sel

-- a number is left open, just where its entry is
pub told_open : (t : IndexedModel) (must may : Plan) → SetsAreOfEntries → NumbersRise t.tree.entries → (ks : List ℕ) →
    AreNumbersOf ks t.tree.entries
    → (n : ℕ) → has_number n ks ≡ true → is_open (is_in (lists_of t) ks must) (is_in (lists_of t) ks may) n ≡
    leaves_open_on t.indexes must may (entry_at n t.tree.entries)
told_open t must may agree rise ks sel n h =
    let d = t.tree.entries in
    let num : AreNumbered (listed_of d) = are_numbered d rise in
    let e : IsEntryOf d n = entry_here ks d sel n h in
    ap₂ (λ (a b : Bool). a && not b) (agree t.indexes (listed_of d) ks n e.entry.entry may num e.listed h)
    (agree t.indexes (listed_of d) ks n e.entry.entry must num e.listed h)
    ∙ sym (ap (leaves_open_on t.indexes must may) e.found)
