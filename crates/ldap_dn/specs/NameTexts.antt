-- The grammar of names: RFC 4514 3.
use Rattle.std.specs.Prelude.{ℕ, List, [], ◌∷◌, reverse, true, false, Some, ◌≡◌, ◌↔◌}
use Rattle.std.specs.List.{list_all}
use Rattle.ldap_schema.specs.Schema.{SchemaModel}
use Rattle.ldap_dn.specs.Names.{TypeAndValue, RdnModel}
use Rattle.ldap_dn.specs.Tokens.{is_space}
use Rattle.ldap_dn.specs.Grammar.{IsSpelled}
use Rattle.ldap_dn.specs.Parted.{IsParted}
use Rattle.ldap_dn.specs.Texts.{type_and_value_of, keys_from, name_of_text}
use Rattle.ldap_dn.specs.declared.token.Token.{Token}

-- parts are types and values, one for each (RFC 4514 3, attributeTypeAndValue)
pub data AreWritten (s : SchemaModel) : List (List Token) → List TypeAndValue → Type 0 where
  no_part : AreWritten s [] []
  a_part : {parts : List (List Token)} {vs : List TypeAndValue} (p : List Token) (v : TypeAndValue) →
      type_and_value_of s p ≡ Some v → AreWritten s parts vs → AreWritten s (p ∷ parts) (v ∷ vs)

-- tokens are a relative name: types and values with `+` between them, whose keys can be set in rising order of type
-- (RFC 4514 3, relativeDistinguishedName)
pub record IsRdn (s : SchemaModel) (ts : List Token) (r : RdnModel) : Type 0 where
  pub parts : List (List Token)
  pub is_parted : IsParted 43 ts parts
  pub are_written : AreWritten s parts r.spelling
  pub are_keys : keys_from s [] r.spelling ≡ Some r.keys

-- parts are relative names, one for each
pub data AreRdns (s : SchemaModel) : List (List Token) → List RdnModel → Type 0 where
  no_rdn : AreRdns s [] []
  an_rdn : {parts : List (List Token)} {rs : List RdnModel} (p : List Token) (r : RdnModel) → IsRdn s p r →
      AreRdns s parts rs → AreRdns s (p ∷ parts) (r ∷ rs)

-- A text is a name's: it spells SPACEs alone, and the name is empty; or it spells relative names with `,` between them,
-- the root's last (RFC 4514 3, distinguishedName).
pub data IsNameText (s : SchemaModel) : List ℕ → List RdnModel → Type 0 where
  is_empty : {text : List ℕ} {ts : List Token} → IsSpelled text ts → list_all is_space ts ≡ true → IsNameText s text []
  has_rdns : {text : List ℕ} {ts : List Token} {parts : List (List Token)} {rs : List RdnModel} → IsSpelled text ts →
      list_all is_space ts ≡ false → IsParted 44 ts parts → AreRdns s parts rs → IsNameText s text (reverse rs)

-- The name of a text is the one whose text it is by the grammar, and a text without a name is no name's.
abbrev pub NamesAreOfTexts : Type 0
NamesAreOfTexts = (s : SchemaModel) (text : List ℕ) (name : List RdnModel) → (name_of_text s text ≡ Some name) ↔
    IsNameText s text name
