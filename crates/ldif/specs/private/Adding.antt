-- LDIF and messages: how the attributes of an add grow, line by line.
use Rattle.std.specs.Prelude.{ℕ, zero, suc, List, [], ◌∷◌, ◌++◌, Option, None, Some, Bool, cond, map}
use Rattle.std.specs.Char.{to_ascii_lowercase}
use Rattle.std.specs.Str.{bytes_eq}
use Rattle.ldif.specs.Records.{ValueModel}
use Rattle.ldap_msg.specs.Messages.{PartialAttributeValue}
pub use Rattle.ldap_words.specs.NameOrder.{number_at}

-- a line's type in lower case
abbrev pub lower_type : ValueModel → List ℕ
lower_type v = map to_ascii_lowercase v.description

-- whether this is a line's type in lower case
abbrev pub has_type : List ℕ → ValueModel → Bool
has_type folded v = bytes_eq folded (lower_type v)

-- an attribute with another value behind those that it has
abbrev pub with_value : PartialAttributeValue → List ℕ → PartialAttributeValue
with_value a octets = record { description = a.description; values = a.values ++ octets ∷ [] }

-- The attributes, where the one at this index has another value; the same, where there is none.
abbrev pub joined : List PartialAttributeValue → ℕ → List ℕ → List PartialAttributeValue
joined [] n octets = []
joined (a ∷ more) zero octets = with_value a octets ∷ more
joined (a ∷ more) (suc n) octets = a ∷ joined more n octets

-- The attributes with a line's value: at the index of its type, else as another attribute.
abbrev pub with_line : List PartialAttributeValue → Option ℕ → ValueModel → List PartialAttributeValue
with_line all (Some n) v = joined all n v.octets
with_line all None v = all ++ record { description = v.description; values = v.octets ∷ [] } ∷ []

-- the index that a type had, else this one if the line has the type
abbrev pub kept_or : Option ℕ → Bool → ℕ → Option ℕ
kept_or None is n = cond is (Some n) None
kept_or (Some m) is n = Some m
