-- Jobs on whole texts.
use Rattle.std.specs.Prelude.{◌≡◌, ℕ, List, false, Option, IfSome}
use Rattle.std.specs.Io.KnownBytes.{Appends}
use Rattle.filter_text.specs.Grammar.{IsFilterText}
use Rattle.filter_text.specs.ldap_filter.Tree.{Tree}
use Rattle.local_directory.specs.ldap_requests.declared.search.Scope.{Scope}
use Rattle.local_directory.specs.ldap_requests.declared.search.DerefAliases.TheVariants.{NeverDerefAliases}
use Rattle.local_directory.specs.ldap_msg.Messages.{SearchRequestValue}
use Rattle.local_directory.specs.Searched.{IsSearched}
use Rattle.local_directory.specs.indexed_tree.Directory.{Directory}

-- where the octets of an input and an output are known, the output has grown by what is made of the input
abbrev pub Turns : (List ℕ → List ℕ → Type 0) → Option (List ℕ) → Option (List ℕ) → Option (List ℕ) → Type 0
Turns IsMade input output grown = IfSome input (λ text. (made : List ℕ) × IsMade text made × Appends output grown made)

-- the request of these words: the filter is the one that its text spells (RFC 4515), and there are no limits (RFC 4511
-- 4.5.1)
pub record IsRequestOf (base : List ℕ) (scope : Scope) (filter : List ℕ) (attributes : List (List ℕ))
    (q : SearchRequestValue) : Type 0 where
  pub tree : Tree
  pub spelled : IsFilterText tree filter
  pub asks : q ≡ record {
    base = base;
    scope = scope;
    deref_aliases = NeverDerefAliases;
    size_limit = 0;
    time_limit = 0;
    types_only = false;
    filter = tree;
    attributes = attributes;
  }

-- what is made of an LDIF text: the answer to the request of these words, over the directory that its records make of
-- this one
pub record IsAnswerTo (d : Directory) (base : List ℕ) (scope : Scope) (filter : List ℕ) (attributes : List (List ℕ))
    (text made : List ℕ) : Type 0 where
  pub request : SearchRequestValue
  pub asked : IsRequestOf base scope filter attributes request
  pub searched : IsSearched d text request made
