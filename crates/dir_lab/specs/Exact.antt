-- What an answer with success shows, in plain words: exactly the entries that were asked for, each once, in order of
-- number, with just the selected attributes. How an answer is made is above.
use Rattle.std.specs.Prelude.{◌≡◌, List, [], ◌∷◌, map, Bool, true, false, ◌&&◌, ◌⊎◌, Some}
use Rattle.state_machine.specs.dir_store.ldap_schema.Schema.{SchemaModel}
use Rattle.state_machine.specs.dir_store.ldap_dn.Names.{RdnModel, rdns}
use Rattle.state_machine.specs.dir_store.ldap_dn.Texts.{name_of_text}
use Rattle.state_machine.specs.dir_store.ldap_op.Values.{OpValue}
use Rattle.dir_search.specs.indexed_tree.Directory.{Directory, NamedEntry}
use Rattle.state_machine.specs.dir_store.Order.{NumbersAreRising}
use Rattle.state_machine.specs.dir_store.Updates.{directory_of}
use Rattle.dir_search.specs.ldap_msg.Messages.{SearchRequestValue, SearchResultEntryValue}
use Rattle.dir_search.specs.Answer.{answer, is_match, is_base, is_empty}
use Rattle.dir_search.specs.directory_api.Answers.{Answer}
use Rattle.dir_search.specs.Scopes.{is_in_scope}
use Rattle.dir_search.specs.Selection.{selected}

-- an entry is one of these
abbrev pub IsAmong : NamedEntry → List NamedEntry → Type 0
IsAmong e [] = ⊥
IsAmong e (f ∷ fs) = (e ≡ f) ⊎ IsAmong e fs

-- an entry that a search asks for: it is in scope, and the filter's value on it is True
abbrev pub is_asked_for : Directory → SearchRequestValue → List RdnModel → NamedEntry → Bool
is_asked_for d q base e = is_in_scope (rdns d.suffix) q.scope (rdns base) (rdns e.name) && is_match d.schema q.filter e

-- Exactly the entries of a directory that a search asks for, each once, in order of number, with just the selected
-- attributes.
pub record AreExactly (d : Directory) (q : SearchRequestValue) (base : List RdnModel)
    (shown : List SearchResultEntryValue) : Type 0 where
  pub entries : List NamedEntry
  pub are_shown : shown ≡ map (selected d.schema q.attributes q.types_only) entries
  pub rising : NumbersAreRising entries
  pub sound : (e : NamedEntry) → IsAmong e entries → IsAmong e d.entries × (is_asked_for d q base e ≡ true)
  pub complete : (e : NamedEntry) → IsAmong e d.entries → is_asked_for d q base e ≡ true → IsAmong e entries

-- the search of the root DSE: the empty name alone (RFC 4512 5.1)
abbrev pub is_of_root_dse : SearchRequestValue → List RdnModel → Bool
is_of_root_dse q base = is_empty base && is_base q.scope

-- An answer with success to a search of entries: at a base that is a name, exactly the entries that it asks for.
pub record IsExact (d : Directory) (q : SearchRequestValue) (a : Answer) : Type 0 where
  pub exact : (base : List RdnModel) → a.code ≡ 0 → name_of_text d.schema q.base ≡ Some base → is_of_root_dse q base ≡
      false → AreExactly d q base a.entries

-- So is each answer over the directory of some updates.
abbrev pub SuccessIsExact : Type 0
SuccessIsExact = (s : SchemaModel) (root : List RdnModel) (ops : List OpValue) (q : SearchRequestValue) →
    IsExact (directory_of s root ops) q (answer (directory_of s root ops) q)
