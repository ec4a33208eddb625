-- Items on the pairs of names that were read: RFC 4511 4.5.1.7.7. Updates, names and a schema are looked at; a pair's
-- key is not spoken of here, though the item on a pair is told by it.
use Rattle.std.specs.Prelude.{ℕ, List, [], ◌∷◌, map, filter, Option, Some, slice_get, ◌≡◌}
use Rattle.ldap_match.specs.ldap_schema.Schema.{SchemaModel}
use Rattle.ldap_match.specs.Truth.{disjunction}
use Rattle.ldap_match.specs.declared.truth.Truth.{Truth}
use Rattle.ldap_dn.specs.Names.{RdnModel}
use Rattle.ldap_dn.specs.Pairs.{PairModel, pairs_of}
use Rattle.ldap_dn.specs.Texts.{name_of_text}
use Rattle.ldap_eval.specs.Matching.{match_on_values, match_on_pair}
use Rattle.ldap_eval.specs.Value.{is_looked_at, match_on_name}
use Rattle.ldap_eval.specs.declared.naming_rules.How.{How}
use Rattle.dir_store.specs.ldap_op.Values.{OpValue}
use Rattle.dir_store.specs.indexed_tree.Directory.{NamedEntry}
use Rattle.dir_store.specs.Updates.{directory_of}

-- a relative name was read: it has a place in the name that some text spells
pub record IsRead (s : SchemaModel) (r : RdnModel) : Type 0 where
  pub text : List ℕ
  pub name : List RdnModel
  pub place : ℕ
  pub spells : name_of_text s text ≡ Some name
  pub there : slice_get name place ≡ Some r

-- each relative name of a name was read
abbrev pub AreRead : SchemaModel → List RdnModel → Type 0
AreRead s [] = Unit {0}
AreRead s (r ∷ rs) = IsRead s r × AreRead s rs

-- so it is of the name of each entry
abbrev pub NamesOfEntriesAreRead : SchemaModel → List NamedEntry → Type 0
NamesOfEntriesAreRead s [] = Unit {0}
NamesOfEntriesAreRead s (e ∷ es) = AreRead s e.name × NamesOfEntriesAreRead s es

-- Whatever the updates were, each name in their directory is made of relative names that were read.
abbrev pub EntriesHaveReadNames : Type 0
EntriesHaveReadNames = (s : SchemaModel) (suffix : List RdnModel) (ops : List OpValue) →
    NamesOfEntriesAreRead s (directory_of s suffix ops).entries

-- the item on an attribute of a pair's type that has the pair's value alone
abbrev pub match_on_one_value : SchemaModel → How → List ℕ → PairModel → Truth
match_on_one_value s h a p = match_on_values s h a p.kind (p.value ∷ [])

-- The item on each pair of such a name is that on an attribute of the pair's type with the pair's value alone, by what
-- values mean.
abbrev pub PairsAreAttributes : Type 0
PairsAreAttributes =
    (s : SchemaModel) (h : How) (a : List ℕ) (n : List RdnModel) → AreRead s n → map (match_on_pair s h a)
    (pairs_of n) ≡ map (match_on_one_value s h a) (pairs_of n)

-- So the item on such a name is the `or` of these over the pairs that it looks at.
abbrev pub NamesAreAttributes : Type 0
NamesAreAttributes =
    (s : SchemaModel) (h : How) (t : Option ℕ) (a : List ℕ) (n : List RdnModel) → AreRead s n →
    match_on_name s h t a n ≡ disjunction (map (match_on_one_value s h a) (filter (λ p. is_looked_at s h t p.kind)
    (pairs_of n)))
