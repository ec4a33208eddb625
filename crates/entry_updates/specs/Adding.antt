-- What an add gives: RFC 4511 4.7.
use Rattle.std.specs.Prelude.{ℕ, List, [], ◌∷◌, Option, None, Some, Result, Ok, Err}
use Rattle.entry_changes.specs.ldap_schema.Schema.{SchemaModel, find}
use Rattle.entry_changes.specs.ldap_dn.Names.{TypeAndValue}
use Rattle.ldap_op.specs.ldap_parts.Values.{PartialAttributeValue}
use Rattle.entry_changes.specs.dir_entry.Entry.{AttributeModel}
use Rattle.entry_changes.specs.dir_entry.Adding.{with_attribute}
use Rattle.entry_changes.specs.Naming.{and_then}
use Rattle.entry_updates.specs.Finishing.{named}

-- undefinedAttributeType (17) where the description is not recognised (RFC 4511 Appendix A.2)
abbrev pub with_given : SchemaModel → Option ℕ → List (List ℕ) → List AttributeModel → Result (List AttributeModel) ℕ
with_given s None values e = Err 17
with_given s (Some t) values e = with_attribute s t values e

-- the entry with what is given, one attribute after the other
abbrev pub with_all_given : SchemaModel → List PartialAttributeValue → List AttributeModel →
    Result (List AttributeModel) ℕ
with_all_given s [] e = Ok e
with_all_given s (g ∷ gs) e = and_then (with_given s (find s g.description) g.values e) (with_all_given s gs)

-- The attributes of a new entry: what is given, then the values of its relative name, then what its classes demand (RFC
-- 4511 4.7).
abbrev pub attributes_asked : SchemaModel → List TypeAndValue → List PartialAttributeValue →
    Result (List AttributeModel) ℕ
attributes_asked s rdn gs = and_then (with_all_given s gs []) (named s rdn)
