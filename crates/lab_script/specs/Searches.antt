-- The search that a text writes.
use Rattle.std.specs.Prelude.{◌≡◌, ◌≤◌, ℕ, List, [], cond, codes, Bool, true, false, Option, None, Some, option_map}
use Rattle.std.specs.Str.{bytes_eq, is_utf8}
use Rattle.ldap_filter.specs.Tree.{Tree, depth, count}
use Rattle.filter_text.specs.Grammar.{IsFilterText}
use Rattle.ldif.specs.ldap_msg.Messages.{SearchRequestValue}
use Rattle.ldif.specs.ldap_msg.ldap_requests.declared.search.Scope.{Scope}
use Rattle.ldif.specs.ldap_msg.ldap_requests.declared.search.Scope.TheVariants.{BaseObject, SingleLevel, WholeSubtree}
use Rattle.ldif.specs.ldap_msg.ldap_requests.declared.search.DerefAliases.TheVariants.{NeverDerefAliases}
use Rattle.lab_script.specs.Cuts.{Cut, cut}

-- what stands between the first two bars, before them and behind them
pub record Parts : Type 0 where
  pub base : List ℕ
  pub scope : Scope
  pub filter : List ℕ

-- the scope that a word names (RFC 4511 4.5.1.2)
abbrev pub scope_of : List ℕ → Option Scope
scope_of word =
    cond (bytes_eq word (codes "base")) (Some BaseObject)
    (cond (bytes_eq word (codes "one")) (Some SingleLevel)
    (cond (bytes_eq word (codes "sub")) (Some WholeSubtree) None))

-- the parts, where the scope is one
abbrev pub with_scope : List ℕ → List ℕ → Option Scope → Option Parts
with_scope base filter None = None
with_scope base filter (Some scope) = Some (record { base = base; scope = scope; filter = filter })

-- the parts of a base and of what stands behind the first bar, cut at the next
abbrev pub cut_again : List ℕ → Option Cut → Option Parts
cut_again base None = None
cut_again base (Some k) = with_scope base k.behind (scope_of k.front)

-- the parts of a text that is cut at its first bar
abbrev pub cut_twice : Option Cut → Option Parts
cut_twice None = None
cut_twice (Some k) = cut_again k.front (cut 124 k.behind)

-- `BASE|SCOPE|FILTER`, cut at the first two bars; all behind them is the filter's
abbrev pub parts_of : List ℕ → Option Parts
parts_of text = cut_twice (cut 124 text)

-- the search of these parts: aliases are never dereferenced, and there are no limits and no selectors (RFC 4511 4.5.1)
abbrev pub search_of : Parts → Tree → SearchRequestValue
search_of p tree = record {
  base = p.base;
  scope = p.scope;
  deref_aliases = NeverDerefAliases;
  size_limit = 0;
  time_limit = 0;
  types_only = false;
  filter = tree;
  attributes = [];
}

-- a text spells this filter, which is within the limits (RFC 4515 3)
pub record IsSpelled (text : List ℕ) (tree : Tree) : Type 0 where
  pub spelled : IsFilterText tree text
  pub deep : depth tree ≤ 128
  pub many : count tree ≤ 512

-- octets are UTF-8, and the text of this filter
pub record IsFilterOf (octets : List ℕ) (tree : Tree) : Type 0 where
  pub utf8 : is_utf8 octets ≡ true
  pub filter : IsSpelled octets tree

-- the search of parts: the base is UTF-8, and the filter is the one that its text spells
pub record IsSearchOf (parts : Parts) (q : SearchRequestValue) : Type 0 where
  pub utf8 : is_utf8 parts.base ≡ true
  pub tree : Tree
  pub filter : IsFilterOf parts.filter tree
  pub asks : q ≡ search_of parts tree

-- The search that a text writes: `BASE|SCOPE|FILTER`, and no other text writes one.
pub record IsSearchText (text : List ℕ) (q : SearchRequestValue) : Type 0 where
  pub parts : Parts
  pub is_cut : parts_of text ≡ Some parts
  pub search : IsSearchOf parts q
