-- The built-in sample, as adds in their order.
use Rattle.std.specs.Prelude.{ℕ, List, [], ◌∷◌, codes, map}
use Rattle.local_directory.specs.ldap_msg.Messages.{PartialAttributeValue, AddRequestValue}
use Rattle.local_directory.specs.ldap_op.Values.{OpValue, add}

-- an attribute with one value
abbrev pub one_value : List ℕ × List ℕ → PartialAttributeValue
one_value p = record { description = p.0; values = p.1 ∷ [] }

-- the add of an entry with this name and these attributes, each with one value
abbrev pub add_of : List ℕ → List (List ℕ × List ℕ) → AddRequestValue
add_of name pairs = record { entry = name; attributes = map one_value pairs }

unfoldable pub example : AddRequestValue
example = add_of (codes "dc=example,dc=com") ((codes "objectClass", codes "domain") ∷ (codes "dc", codes "example") ∷
    [])

unfoldable pub items_unit : AddRequestValue
items_unit = add_of (codes "ou=Items,dc=example,dc=com")
    ((codes "objectClass", codes "organizationalUnit") ∷ (codes "ou", codes "Items") ∷ [])

unfoldable pub ana : AddRequestValue
ana =
    add_of (codes "cn=Ana,ou=Items,dc=example,dc=com")
    ((codes "objectClass", codes "item") ∷ (codes "cn", codes "Ana") ∷ (codes "description", codes "first") ∷
    (codes "label", codes "abc") ∷ (codes "rank", codes "9") ∷ [])

unfoldable pub anna : AddRequestValue
anna =
    add_of (codes "cn=Anna,ou=Items,dc=example,dc=com")
    ((codes "objectClass", codes "item") ∷ (codes "cn", codes "Anna") ∷ (codes "label", codes "xyz") ∷
    (codes "rank", codes "10") ∷ [])

unfoldable pub anana : AddRequestValue
anana =
    add_of (codes "cn=Anana,ou=Items,dc=example,dc=com")
    ((codes "objectClass", codes "item") ∷ (codes "cn", codes "Anana") ∷ (codes "ticket", codes "7") ∷
    (codes "rank", codes "-3") ∷ [])

unfoldable pub an_na : AddRequestValue
an_na =
    add_of (codes "cn=An Na,ou=Items,dc=example,dc=com")
    ((codes "objectClass", codes "item") ∷ (codes "cn", codes "An Na") ∷
    (codes "rank", codes "1234567890123456789012345678901234567890") ∷ [])

-- The sample: six entries, each by an add.
unfoldable pub sample : List OpValue
sample = add example ∷ add items_unit ∷ add ana ∷ add anna ∷ add anana ∷ add an_na ∷ []
