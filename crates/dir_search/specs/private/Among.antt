-- What a search finds whose filter is bound. Only this crate's own contracts speak of it.
use Rattle.std.specs.Prelude.{ℕ, List, Bool}
use Rattle.indexed_tree.specs.ldap_dn.Names.{rdns}
use Rattle.indexed_tree.specs.directory_api.ldap_msg.View.{search_view}
use Rattle.indexed_tree.specs.dir_tree.Directory.{NameKey, numbers}
use Rattle.dir_search.specs.private.View.{FindsAmong}
use Rattle.dir_search.specs.declared.bound_search.BoundSearch.{BoundSearch}
use Rattle.indexed_tree.specs.directory_api.declared.search_answer.SearchAnswer.{SearchAnswer}

-- what is found among the entries of these numbers
abbrev pub FindsOf : BoundSearch → List ℕ → SearchAnswer → Type 0
FindsOf b ks a = FindsAmong a b.schema.now (search_view b.request.now) b.indexed.now.indexes b.bound.now
    b.indexed.now.tree.entries ks

-- what is found among the entries whose name passes a test
abbrev pub FindsWhere : BoundSearch → (NameKey → Bool) → SearchAnswer → Type 0
FindsWhere b p a = FindsOf b (numbers (λ e. p (rdns e.name)) b.indexed.now.tree.entries) a
