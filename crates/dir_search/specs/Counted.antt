-- On just how many entries a search evaluates its filter.
use Rattle.std.specs.Prelude.{◌≡◌, ℕ, true, ◌&&◌, not, cond, Bool, List, length, map, filter, nat_le, nat_lt, Option, None, Some}
use Rattle.std.specs.List.{slice_get}
use Rattle.indexed_tree.specs.ldap_dn.Names.{RdnModel, rdns}
use Rattle.indexed_tree.specs.ldap_dn.Texts.{name_of_text}
use Rattle.indexed_tree.specs.directory_api.ldap_msg.Messages.{SearchRequestValue}
use Rattle.indexed_tree.specs.dir_entry.Entry.{KeyedAttribute}
use Rattle.indexed_tree.specs.index_choice.declared.kinds.Kinds.{Kinds}
use Rattle.indexed_tree.specs.dir_tree.Directory.{Entered}
use Rattle.indexed_tree.specs.Directory.{Directory, NamedEntry}
use Rattle.indexed_tree.specs.Listed.{StoreModel}
use Rattle.indexed_tree.specs.Stored.{named, AreKeyedBy}
use Rattle.search_plans.specs.Sets.{holds}
use Rattle.search_plans.specs.declared.plan.Plan.{Plan}
use Rattle.search_plans.specs.Planned.{ArePlansFor}
use Rattle.dir_search.specs.Answer.{matching, is_empty, is_base}
use Rattle.dir_search.specs.Evaluated.{goes_over}
use Rattle.dir_search.specs.Scopes.{is_in_scope}

-- whether two plans leave an entry open: it may match, and need not
abbrev pub leaves_open : List Kinds → Plan → Plan → List KeyedAttribute → Bool
leaves_open ix must may e = holds ix e may && not (holds ix e must)

-- where a search ends that shows at most so many, if that isn't 0: at the first past the limit, if there are more
abbrev pub first_past : {A : Type 0} → ℕ → List A → Option A
first_past limit found = cond (nat_lt 0 limit) (slice_get found limit) None

-- those of these entries that are in scope, with their keys
abbrev pub keyed_in_scope : Directory → SearchRequestValue → List RdnModel → List Entered → List Entered
keyed_in_scope d q base es = filter (λ e. is_in_scope (rdns d.suffix) q.scope (rdns base) (rdns e.name)) es

-- those of these entries up to one; all, where there is none
abbrev pub up_to_entry : Option NamedEntry → List Entered → List Entered
up_to_entry None es = es
up_to_entry (Some m) es = filter (λ e. nat_le e.number m.number) es

-- A search at a base evaluated its filter on just the entries in scope that plans of the filter leave open, up to the
-- first past the size limit.
pub record IsCountAtBase (ix : List Kinds) (d : Directory) (q : SearchRequestValue) (base : List RdnModel)
    (tests : ℕ) : Type 0 where
  pub keyed_entries : List Entered
  pub are : map named keyed_entries ≡ d.entries
  pub keyed : AreKeyedBy d.schema keyed_entries
  pub must : Plan
  pub may : Plan
  pub plans : ArePlansFor d.schema ix q.filter must may
  pub counted : tests ≡ length (filter (λ e. leaves_open ix must may e.entry)
      (up_to_entry (first_past q.size_limit (matching d q base)) (keyed_in_scope d q base keyed_entries)))

-- The same of a search that goes over entries; that of the root DSE alone evaluates its filter once.
pub record IsCountFrom (s : StoreModel) (q : SearchRequestValue) (base : List RdnModel) (tests : ℕ) : Type 0 where
  pub over : goes_over s.directory q base ≡ true → IsCountAtBase s.indexes s.directory q base tests
  pub root : (is_empty base && is_base q.scope) ≡ true → tests ≡ 1

-- the same at a base that can be read
abbrev pub IsCountAt : StoreModel → SearchRequestValue → Option (List RdnModel) → ℕ → Type 0
IsCountAt s q None tests = Unit {0}
IsCountAt s q (Some base) tests = IsCountFrom s q base tests

-- This is the number of entries that a search of a store evaluates its filter on.
abbrev pub IsCountOf : StoreModel → SearchRequestValue → ℕ → Type 0
IsCountOf s q tests = IsCountAt s q (name_of_text s.directory.schema q.base) tests
