-- A relative name as a set: RFC 4512 2.3.1.
use Rattle.std.specs.Prelude.{List, [], ◌∷◌, Bool, true, ◌&&◌, Some, nat_lt, ◌≡◌}
use Rattle.std.specs.List.{list_all}
use Rattle.ldap_schema.specs.Schema.{SchemaModel}
use Rattle.ldap_dn.specs.Names.{TypeAndKey, RdnModel}
use Rattle.ldap_dn.specs.Texts.{rdn_of}
use Rattle.ldap_dn.specs.declared.token.Token.{Token}

-- types in rising order, each once
abbrev pub is_rising : List TypeAndKey → Bool
is_rising [] = true
is_rising (k ∷ ks) = list_all (λ x. nat_lt k.kind x.kind) ks && is_rising ks

-- The types with their keys of a relative name that is read stand in rising order, each type once.
abbrev pub KeysAreRising : Type 0
KeysAreRising = (s : SchemaModel) (ts : List Token) (r : RdnModel) → rdn_of s ts ≡ Some r → is_rising r.keys ≡ true
