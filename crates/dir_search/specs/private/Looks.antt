-- How many entries a search evaluates its bound filter on, by their numbers: what contracts that aren't public say of
-- it. What public contracts say is in specs/Looks.
use Rattle.std.specs.Prelude.{◌≡◌, ◌≤◌, ℕ, Bool, true, false, List, length, filter, nat_le, Option, None, Some, is_some, Vec}
use Rattle.std.specs.Global.{Global}
use Rattle.std.specs.List.{AllByRecursion}
use Rattle.indexed_tree.specs.ldap_match.declared.truth.Truth.TheVariants.{True}
use Rattle.indexed_tree.specs.ldap_dn.Names.{RdnModel, rdns}
use Rattle.indexed_tree.specs.directory_api.ldap_msg.Messages.{SearchRequestValue}
use Rattle.indexed_tree.specs.ldap_schema.Schema.{SchemaModel}
use Rattle.ldap_filter.specs.Tree.{Tree}
use Rattle.ldap_eval.specs.Bound.{bound_value, IsBoundTo}
use Rattle.ldap_eval.specs.Made.{IsMadeOf}
use Rattle.ldap_eval.specs.declared.bound.BoundFilter.{BoundFilter}
use Rattle.ldap_eval.specs.declared.bound.BoundFilter.TheVariants as bound
use Rattle.indexed_tree.specs.index_choice.declared.kinds.Kinds.{Kinds}
use Rattle.indexed_tree.specs.dir_index.Postings.{has_number}
use Rattle.indexed_tree.specs.dir_tree.Directory.{Entered, entry_at, numbers}
use Rattle.indexed_tree.specs.Directory.{Directory}
use Rattle.indexed_tree.specs.Stored.{named}
use Rattle.search_plans.specs.Bounds.{is_decided}
use Rattle.search_plans.specs.OctetRuns.{has_runs_for}
use Rattle.search_plans.specs.Planned.{ArePlansFor}
use Rattle.search_plans.specs.declared.plan.Plan.{Plan}
use Rattle.search_plans.specs.Runs.{true_set}
use Rattle.dir_search.specs.Answer.{is_true, is_match}
use Rattle.dir_search.specs.Counted.{leaves_open, first_past}
use Rattle.dir_search.specs.Scopes.{is_in_scope}
use Rattle.dir_search.specs.Looks.{value_in}

-- A bound filter stands for a filter on these entries: it is True on each of them just where the filter is.
abbrev pub IsBoundOn : SchemaModel → Tree → BoundFilter → List Entered → Type 0
IsBoundOn s t b d = (k : ℕ) (e : Entered) → entry_at k d ≡ Some e → is_true (bound_value e.name e.entry b) ≡
    is_match s t (named e)

-- the numbers of the entries that a bound filter is True on, in their order
abbrev pub true_numbers : BoundFilter → List Entered → List ℕ → List ℕ
true_numbers b d ks = true_set (value_in b d) ks

-- whether an entry holds each run of three octets that the substrings items of a bound filter ask for
abbrev pub has_runs_on : List Kinds → BoundFilter → Option Entered → Bool
has_runs_on ix b None = false
has_runs_on ix b (Some e) = has_runs_for ix e.entry b

-- these are the numbers of some of the entries
abbrev pub AreNumbersOf : List ℕ → List Entered → Type 0
AreNumbersOf ks d = (p : Entered → Bool) × (ks ≡ numbers p d)

-- each number has an entry
abbrev pub AreHere : List Entered → List ℕ → Type 0
AreHere d ks = AllByRecursion (λ n. is_some (entry_at n d) ≡ true) ks

-- A bound filter was evaluated on few of the entries of these numbers: on none, where the indexes decide it; for an
-- `and`, on at most as many as each part that they decide is True on; and on at most as many as hold the runs of three
-- octets that it asks for.
pub record IsFew (ix : List Kinds) (b : BoundFilter) (d : List Entered) (ks : List ℕ) (tests : ℕ) : Type 0 where
  pub within : tests ≤ length ks
  pub decided : is_decided ix b ≡ true → tests ≡ 0
  pub parts : (v : Vec BoundFilter Global) → b ≡ bound.And v → AllByRecursion (λ f. is_decided ix f ≡ true →
      tests ≤ length (true_numbers f d ks)) v.items
  pub runs : tests ≤ length (filter (λ n. has_runs_on ix b (entry_at n d)) ks)

-- Which of these numbers are left open: none, where the indexes decide the filter; for an `and`, only those on whose
-- entry each part that they decide is True; and only those whose entry holds the runs of three octets that the filter
-- asks for.
pub record LeavesFew (open_at : ℕ → Bool) (ix : List Kinds) (b : BoundFilter) (d : List Entered) (ks : List ℕ) :
    Type 0 where
  pub decided : is_decided ix b ≡ true → (n : ℕ) → has_number n ks ≡ true → open_at n ≡ false
  pub parts : (v : Vec BoundFilter Global) → b ≡ bound.And v → (n : ℕ) → has_number n ks ≡ true → open_at n ≡ true
      → AllByRecursion (λ f. is_decided ix f ≡ true → value_in f d n ≡ True) v.items
  pub runs : (n : ℕ) → has_number n ks ≡ true → open_at n ≡ true → has_runs_on ix b (entry_at n d) ≡ true

-- whether two plans leave the entry of a number open
abbrev pub leaves_open_on : List Kinds → Plan → Plan → Option Entered → Bool
leaves_open_on ix must may None = false
leaves_open_on ix must may (Some e) = leaves_open ix must may e.entry

-- the numbers up to one; all, where there is none
abbrev pub up_to : Option ℕ → List ℕ → List ℕ
up_to None ns = ns
up_to (Some m) ns = filter (λ n. nat_le n m) ns

-- A bound filter was evaluated on just the entries of these numbers that plans of it leave open, up to where a search
-- ends that shows at most so many.
pub record IsCountAmong (ix : List Kinds) (b : BoundFilter) (d : List Entered) (ks : List ℕ) (limit tests : ℕ) :
    Type 0 where
  pub must : Plan
  pub may : Plan
  pub plans : (s : SchemaModel) (t : Tree) → IsBoundTo s t b → IsMadeOf s t b → ArePlansFor s ix t must may
  pub counted : tests ≡ length (filter (λ n. leaves_open_on ix must may (entry_at n d))
      (up_to (first_past limit (true_numbers b d ks)) ks))

-- the numbers of the entries in scope
abbrev pub numbers_in_scope : Directory → SearchRequestValue → List RdnModel → List Entered → List ℕ
numbers_in_scope d q base es = numbers (λ e. is_in_scope (rdns d.suffix) q.scope (rdns base) (rdns e.name)) es
