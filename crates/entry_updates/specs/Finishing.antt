-- What is demanded of an entry at the end of an update: RFC 4511 4.6, 4.7, 4.9.
use Rattle.std.specs.Prelude.{List, Bool, true, false, not, Result, Ok, ℕ}
use Rattle.entry_changes.specs.ldap_schema.Schema.{SchemaModel}
use Rattle.entry_changes.specs.ldap_dn.Names.{TypeAndValue}
use Rattle.entry_changes.specs.dir_entry.Entry.{AttributeModel}
use Rattle.entry_changes.specs.dir_entry.Adding.{refuse}
use Rattle.entry_changes.specs.Naming.{and_then, with_rdn, without_rdn, has_rdn}
use Rattle.entry_updates.specs.Classes.{completed, settled}
use Rattle.entry_updates.specs.Structural.{kept_completed}

-- the attributes of a new entry: those given, the values of its relative name, then what its classes demand (RFC 4511
-- 4.7)
abbrev pub named : SchemaModel → List TypeAndValue → List AttributeModel → Result (List AttributeModel) ℕ
named s rdn e = and_then (with_rdn s rdn e) (settled s)

-- without the old relative name's values, if deleteoldrdn asks for that (RFC 4511 4.9)
abbrev pub dropped : SchemaModel → Bool → List TypeAndValue → List TypeAndValue → List AttributeModel →
    Result (List AttributeModel) ℕ
dropped s false new old e = Ok e
dropped s true new old e = without_rdn s new old e

-- The attributes under a new relative name: its values join; if asked, the old ones leave; then the superclasses, and
-- what the classes demand (RFC 4511 4.9).
abbrev pub renamed : SchemaModel → List TypeAndValue → List TypeAndValue → Bool → List AttributeModel →
    Result (List AttributeModel) ℕ
renamed s old new delete_old e = and_then (and_then (with_rdn s new e) (dropped s delete_old new old)) (settled s)

-- The entry at the end of a modify: notAllowedOnRDN (67) where a value of its relative name is gone, then the codes
-- above (RFC 4511 4.6, Appendix A.2).
abbrev pub kept : SchemaModel → List TypeAndValue → List AttributeModel → List AttributeModel →
    Result (List AttributeModel) ℕ
kept s rdn before e = refuse (not (has_rdn s rdn e)) 67 (kept_completed s before (completed s e))
