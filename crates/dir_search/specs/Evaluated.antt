-- On how many entries a search evaluates its filter.
use Rattle.std.specs.Prelude.{◌≡◌, ◌<◌, ◌≤◌, ℕ, true, ◌&&◌, not, Bool, List, length, filter, nat_le, Option, None, Some}
use Rattle.std.specs.List.{slice_get}
use Rattle.indexed_tree.specs.ldap_schema.Schema.{SchemaModel}
use Rattle.indexed_tree.specs.ldap_dn.Names.{RdnModel}
use Rattle.indexed_tree.specs.ldap_dn.Texts.{name_of_text}
use Rattle.ldap_filter.specs.Tree.{Tree, conj, Trees, no_trees, tree}
use Rattle.indexed_tree.specs.directory_api.ldap_msg.Messages.{SearchRequestValue}
use Rattle.indexed_tree.specs.index_choice.declared.kinds.Kinds.{Kinds}
use Rattle.indexed_tree.specs.Directory.{Directory, NamedEntry}
use Rattle.indexed_tree.specs.Listed.{StoreModel}
use Rattle.search_plans.specs.Decided.{is_decided}
use Rattle.search_plans.specs.Held.{has_runs}
use Rattle.dir_search.specs.Answer.{is_match, in_scope, matching, is_empty, is_base, is_subordinate, stands}

-- no more than each of these filters that the indexes decide is True on, among these entries
abbrev pub IsWithinParts : SchemaModel → List Kinds → Trees → List NamedEntry → ℕ → Type 0
IsWithinParts s ix no_trees es tests = Unit {0}
IsWithinParts s ix (tree t ts) es tests = (is_decided s ix t ≡ true → tests ≤ length (filter (is_match s t) es))
    × IsWithinParts s ix ts es tests

-- A filter was evaluated on few of these entries: on none, where the indexes decide it; for an `and`, on at most as
-- many as each part that they decide is True on; and on at most as many as hold each run of three octets that it asks
-- for.
pub record IsFewOf (s : SchemaModel) (ix : List Kinds) (f : Tree) (es : List NamedEntry) (tests : ℕ) : Type 0 where
  pub within : tests ≤ length es
  pub decided : is_decided s ix f ≡ true → tests ≡ 0
  pub parts : (ts : Trees) → f ≡ conj ts → IsWithinParts s ix ts es tests
  pub runs : tests ≤ length (filter (λ e. has_runs s ix e.attributes f) es)

-- those of these entries up to a number
abbrev pub those_up_to : ℕ → List NamedEntry → List NamedEntry
those_up_to m es = filter (λ e. nat_le e.number m) es

-- A search at a base evaluated its filter on few of the entries in scope; and where more of them match than the size
-- limit, on few of those up to the first past it.
pub record IsFewAtBase (ix : List Kinds) (d : Directory) (q : SearchRequestValue) (base : List RdnModel) (tests : ℕ) :
    Type 0 where
  pub few : IsFewOf d.schema ix q.filter (in_scope d q.scope base) tests
  pub few_up_to : (e : NamedEntry) → 0 < q.size_limit → slice_get (matching d q base) q.size_limit ≡ Some e
      → IsFewOf d.schema ix q.filter (those_up_to e.number (in_scope d q.scope base)) tests

-- whether a search goes over entries at a base: the base stands, and it is not the root DSE alone that is asked for
abbrev pub goes_over : Directory → SearchRequestValue → List RdnModel → Bool
goes_over d q base = not (is_subordinate q.scope) && (not (is_empty base && is_base q.scope) && stands d base)

-- At a base that can be read, a search that goes over entries evaluates its filter on few of them.
abbrev pub IsFewAt : StoreModel → SearchRequestValue → Option (List RdnModel) → ℕ → Type 0
IsFewAt s q None tests = Unit {0}
IsFewAt s q (Some base) tests = goes_over s.directory q base ≡ true → IsFewAtBase s.indexes s.directory q base tests

-- A search of a store evaluates its filter on few of the entries in scope.
abbrev pub LooksAtFew : StoreModel → SearchRequestValue → ℕ → Type 0
LooksAtFew s q tests = IsFewAt s q (name_of_text s.directory.schema q.base) tests
