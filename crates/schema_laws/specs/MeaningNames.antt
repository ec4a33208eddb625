-- Names by what they mean: RFC 4517 4.2.15, RFC 4512 2.3.1.
use Rattle.std.specs.Prelude.{ℕ, List, [], ◌∷◌, Option, None, Some, ◌≡◌, ◌↔◌}
use Rattle.ldap_match.specs.ldap_syntax.Meaning.{Meaning}
use Rattle.ldap_match.specs.ldap_words.declared.rule.Rule.{Rule}
use Rattle.ldap_match.specs.ldap_schema.Schema.{SchemaModel}
use Rattle.ldap_match.specs.ldap_dn.Meaning.{meaning}
use Rattle.ldap_match.specs.ldap_schema.Rules.{equality_of}
use Rattle.ldap_dn.specs.Names.{TypeAndValue, RdnModel, IsSameName}
use Rattle.ldap_dn.specs.Texts.{name_of_text}

-- what a value means under a rule, if there is one; a value that is itself a name means nothing here, and stands in no
-- name
abbrev pub meaning_under : SchemaModel → Option Rule → List ℕ → Option Meaning
meaning_under s None v = None
meaning_under s (Some r) v = meaning s r v

-- what a value of a type means: under the type's EQUALITY rule (RFC 4514 2.4, RFC 4517 4.2)
abbrev pub meaning_of : SchemaModel → ℕ → List ℕ → Option Meaning
meaning_of s t v = meaning_under s (equality_of s t) v

-- one of the types and values of a relative name is of this type, and its value means this
pub data Says (s : SchemaModel) (t : ℕ) (m : Meaning) : List TypeAndValue → Type 0 where
  says_first : {vs : List TypeAndValue} (v : TypeAndValue) → v.kind ≡ t → meaning_of s t v.value ≡ Some m →
      Says s t m (v ∷ vs)
  says_later : {vs : List TypeAndValue} (v : TypeAndValue) → Says s t m vs → Says s t m (v ∷ vs)

-- two relative names are equal as sets: each type and meaning of the one is one of the other's (RFC 4512 2.3.1)
abbrev pub SayTheSame : SchemaModel → List TypeAndValue → List TypeAndValue → Type 0
SayTheSame s vs ws = (t : ℕ) (m : Meaning) → Says s t m vs ↔ Says s t m ws

-- two names have as many relative names, and those at one place are equal as sets (RFC 4517 4.2.15)
pub data AreOneByMeaning (s : SchemaModel) : List RdnModel → List RdnModel → Type 0 where
  both_end : AreOneByMeaning s [] []
  and_the_same : {a b : List RdnModel} (r q : RdnModel) → SayTheSame s r.spelling q.spelling → AreOneByMeaning s a b →
      AreOneByMeaning s (r ∷ a) (q ∷ b)

-- Two names that were read under one schema are one name exactly where they are one by meaning, however they are
-- written.
abbrev pub NamesAreOneByMeaning : Type 0
NamesAreOneByMeaning = (s : SchemaModel) (first second : List ℕ) (a b : List RdnModel) → name_of_text s first ≡
    Some a → name_of_text s second ≡ Some b → IsSameName a b ↔ AreOneByMeaning s a b
