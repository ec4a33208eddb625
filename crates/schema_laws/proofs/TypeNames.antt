-- Types that go by their first names.
use Rattle.std.proofs.Common.{ℕ, ◌+◌, List, [], ◌∷◌, Bool, true, false, ◌&&◌, Option, None, Some, nat_eq, ◌≡◌}
use Rattle.std.specs.List.{list_all}
use Rattle.ldap_match.specs.ldap_schema.Schema.{SchemaModel, TypeModel, find}
use Rattle.ldap_dn.specs.Printed.{type_name}
use Rattle.schema_laws.specs.PrintedRead.{is_name_octet}

abbrev pub is_type_found : ℕ → Option ℕ → Bool
is_type_found t None = false
is_type_found t (Some u) = nat_eq u t

-- a type's first name is plain, and the schema finds the type by it
abbrev pub goes_by_its_name : SchemaModel → ℕ → Bool
goes_by_its_name s t = is_type_found t (find s (type_name s t)) && list_all is_name_octet (type_name s t)

abbrev pub go_by_their_names : SchemaModel → List TypeModel → ℕ → Bool
go_by_their_names s [] t = true
go_by_their_names s (x ∷ xs) t = goes_by_its_name s t && go_by_their_names s xs (t + 1)

-- Each type goes by its first name, which no other type before it has (RFC 4512 4.1).
abbrev pub TypesGoByTheirNames : SchemaModel → Type 0
TypesGoByTheirNames s = go_by_their_names s s.types 0 ≡ true
