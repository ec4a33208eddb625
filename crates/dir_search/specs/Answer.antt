-- The answer of a search: RFC 4511 4.5.1, 4.5.2 and 4.1.9.
use Rattle.std.specs.Prelude.{ℕ, List, [], ◌∷◌, Bool, true, false, ◌&&◌, ◌||◌, cond, map, filter, take, length, nat_lt, Option, None, Some, is_some}
use Rattle.indexed_tree.specs.ldap_schema.Schema.{SchemaModel}
use Rattle.ldap_filter.specs.Tree.{Tree}
use Rattle.indexed_tree.specs.ldap_dn.Names.{RdnModel, rdns}
use Rattle.indexed_tree.specs.ldap_dn.Texts.{name_of_text}
use Rattle.indexed_tree.specs.directory_api.ldap_msg.ldap_requests.declared.search.Scope.{Scope}
use Rattle.indexed_tree.specs.directory_api.ldap_msg.ldap_requests.declared.search.Scope.TheVariants.{BaseObject, SubordinateSubtree}
use Rattle.indexed_tree.specs.directory_api.ldap_msg.Messages.{SearchRequestValue, SearchResultEntryValue}
use Rattle.ldap_eval.specs.Value.{filter_value}
use Rattle.indexed_tree.specs.Directory.{Directory, NamedEntry}
use Rattle.indexed_tree.specs.Places.{entry_named}
use Rattle.indexed_tree.specs.Replies.{not_found}
use Rattle.indexed_tree.specs.directory_api.Answers.{Answer, only, refused}
use Rattle.dir_search.specs.Scopes.{is_in_scope}
use Rattle.dir_search.specs.Selection.{selected}
use Rattle.dir_search.specs.RootDse.{dse_attributes, dse_selected}
pub use Rattle.search_plans.specs.Runs.{is_true}

-- whether a filter's value on an entry is True (RFC 4511 4.5.1.7)
abbrev pub is_match : SchemaModel → Tree → NamedEntry → Bool
is_match s f e = is_true (filter_value s f e.name e.attributes)

-- the entries in scope, in order of number
abbrev pub in_scope : Directory → Scope → List RdnModel → List NamedEntry
in_scope d scope base = filter (λ e. is_in_scope (rdns d.suffix) scope (rdns base) (rdns e.name)) d.entries

-- the entries in scope whose filter value is True, in order of number, each once
abbrev pub matching : Directory → SearchRequestValue → List RdnModel → List NamedEntry
matching d q base = filter (is_match d.schema q.filter) (in_scope d q.scope base)

-- At most so many entries are shown, if the limit isn't 0; sizeLimitExceeded (4) where there are more, else success
-- (0).
abbrev pub limited : ℕ → List SearchResultEntryValue → Answer
limited limit shown =
    cond (nat_lt 0 limit && nat_lt limit (length shown)) (record {
      code = 4;
      matched = [];
      entries = take limit shown;
    }) (record { code = 0; matched = []; entries = shown })

-- the root DSE, where the filter's value on it is True (RFC 4512 5.1)
abbrev pub dse_matching : Directory → SearchRequestValue → List SearchResultEntryValue
dse_matching d q = cond (is_true (filter_value d.schema q.filter [] (dse_attributes d.schema)))
    (dse_selected d q.attributes q.types_only ∷ []) []

-- a name of no relative names, the root's
abbrev pub is_empty : List RdnModel → Bool
is_empty [] = true
is_empty (r ∷ rs) = false

-- whether the base itself is all that is searched
abbrev pub is_base : Scope → Bool
is_base BaseObject = true
is_base scope = false

-- whether the scope is subordinateSubtree, which is no scope of RFC 4511
abbrev pub is_subordinate : Scope → Bool
is_subordinate SubordinateSubtree = true
is_subordinate scope = false

-- the entries in scope that match, as they are shown, up to the limit
abbrev pub found_at : Directory → SearchRequestValue → List RdnModel → Answer
found_at d q base = limited q.size_limit (map (selected d.schema q.attributes q.types_only) (matching d q base))

-- the empty name always stands, beside the names of entries
abbrev pub stands : Directory → List RdnModel → Bool
stands d base = is_empty base || is_some (entry_named (rdns base) d.entries)

-- the answer at a base that can be read: the root DSE, the entries, or noSuchObject (32)
abbrev pub answer_at : Directory → SearchRequestValue → List RdnModel → Answer
answer_at d q base =
    cond (is_empty base && is_base q.scope) (record { code = 0; matched = []; entries = dse_matching d q })
    (cond (stands d base) (found_at d q base) (refused (not_found d base)))

-- 34 where the base is no name, else the answer at it
abbrev pub answer_of : Directory → SearchRequestValue → Option (List RdnModel) → Answer
answer_of d q None = refused (only 34)
answer_of d q (Some base) = answer_at d q base

-- The answer of a search: protocolError (2) for the scope that is no scope of RFC 4511, invalidDNSyntax (34) for a base
-- that can't be read, then as above.
abbrev pub answer : Directory → SearchRequestValue → Answer
answer d q = cond (is_subordinate q.scope) (refused (only 2)) (answer_of d q (name_of_text d.schema q.base))

-- How many entries there are to evaluate a search's filter on: those in scope, and the root DSE alone where that is
-- searched.
abbrev pub tried_at : Directory → SearchRequestValue → List RdnModel → ℕ
tried_at d q base = cond (is_empty base && is_base q.scope) 1 (cond (stands d base) (length (in_scope d q.scope base))
    0)

-- none where the base is no name
abbrev pub tried_of : Directory → SearchRequestValue → Option (List RdnModel) → ℕ
tried_of d q None = 0
tried_of d q (Some base) = tried_at d q base

-- how many entries the filter may be tried on
abbrev pub tried : Directory → SearchRequestValue → ℕ
tried d q = cond (is_subordinate q.scope) 0 (tried_of d q (name_of_text d.schema q.base))
