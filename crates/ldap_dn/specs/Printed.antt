-- The one printed form of a name: RFC 4514 2.
use Rattle.std.specs.Prelude.{ℕ, List, [], ◌∷◌, ◌++◌, map, reverse, length, chars, encode_utf8, Bool, true, false, cond, ◌&&◌, ◌||◌, Option, None, Some, nat_eq, slice_get, flat_map}
use Rattle.ldap_schema.specs.Schema.{SchemaModel, TypeModel, first_name_of}
use Rattle.ldap_dn.specs.Names.{TypeAndValue, RdnModel}

-- the characters that are escaped wherever they stand: `"`, `+`, `,`, `;`, `<`, `>` and backslash (RFC 4514 2.4)
abbrev pub is_special : ℕ → Bool
is_special c = nat_eq c 34 || nat_eq c 43 || nat_eq c 44 || nat_eq c 59 || nat_eq c 60 || nat_eq c 62 || nat_eq c 92

-- whether a character is escaped, as the first one, the last one, or any: SPACE at both ends, `#` as the first (RFC
-- 4514 2.4)
abbrev pub is_escaped : Bool → Bool → ℕ → Bool
is_escaped first last c = is_special c || (first && (nat_eq c 32 || nat_eq c 35)) || (last && nat_eq c 32)

-- a character in UTF-8, behind a backslash where it is escaped; NUL is `\00`
abbrev pub printed_character : Bool → ℕ → List ℕ
printed_character escaped c = cond (nat_eq c 0) (92 ∷ 48 ∷ 48 ∷ []) (cond escaped (92 ∷ encode_utf8 c) (encode_utf8 c))

-- characters to the end of a value, the value's first one among them or not
abbrev pub printed_from : Bool → List ℕ → List ℕ
printed_from first [] = []
printed_from first (c ∷ cs) = printed_character (is_escaped first (nat_eq (length cs) 0) c) c ++ printed_from false cs

-- a value
abbrev pub printed_value : List ℕ → List ℕ
printed_value v = printed_from true (chars v)

-- the first name of a type, or its object identifier where it has no name; nothing, where there is no type
abbrev pub name_of_type : Option TypeModel → List ℕ
name_of_type None = []
name_of_type (Some t) = first_name_of t.oid t.names

-- the first name of a type; nothing, where the schema has no such type
abbrev pub type_name : SchemaModel → ℕ → List ℕ
type_name s t = name_of_type (slice_get s.types t)

-- a type by its first name, `=` and the value
abbrev pub printed_type_and_value : SchemaModel → TypeAndValue → List ℕ
printed_type_and_value s v = type_name s v.kind ++ 61 ∷ printed_value v.value

-- texts with one octet between them
abbrev pub separated : ℕ → List (List ℕ) → List ℕ
separated c [] = []
separated c (x ∷ xs) = x ++ flat_map (λ y. c ∷ y) xs

-- a relative name: its types and values as they were written, with `+` between them (RFC 4514 2.2)
abbrev pub printed_rdn : SchemaModel → List TypeAndValue → List ℕ
printed_rdn s vs = separated 43 (map (printed_type_and_value s) vs)

-- The printed form: relative names with `,` between them, the root's last (RFC 4514 2.1).
abbrev pub printed_name : SchemaModel → List RdnModel → List ℕ
printed_name s name = separated 44 (map (λ r. printed_rdn s r.spelling) (reverse name))

-- relative names, each behind a `,`: what is printed behind a relative name right below the last of them
abbrev pub printed_behind : SchemaModel → List RdnModel → List ℕ
printed_behind s rdns = flat_map (λ y. 44 ∷ y) (map (λ r. printed_rdn s r.spelling) rdns)
