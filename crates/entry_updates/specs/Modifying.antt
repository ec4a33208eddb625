-- What a modify does: RFC 4511 4.6.
use Rattle.std.specs.Prelude.{ℕ, List, [], ◌∷◌, Bool, true, false, Result, Ok, Err}
use Rattle.std.specs.Option.{ok_or}
use Rattle.entry_changes.specs.ldap_schema.Schema.{SchemaModel, find}
use Rattle.entry_changes.specs.ldap_dn.Names.{TypeAndValue}
use Rattle.ldap_op.specs.ldap_parts.UpdateValues.{ChangeValue}
use Rattle.ldap_op.specs.ldap_parts.declared.modify.ModifyOperation.{ModifyOperation}
use Rattle.ldap_op.specs.ldap_parts.declared.modify.ModifyOperation.TheVariants.{Add, Delete, Replace, Increment}
use Rattle.entry_changes.specs.dir_entry.Entry.{AttributeModel}
use Rattle.entry_changes.specs.dir_entry.Adding.{refuse}
use Rattle.entry_changes.specs.Editing.{with_added, with_deleted, with_replaced}
use Rattle.entry_changes.specs.Naming.{and_then}
use Rattle.entry_updates.specs.Finishing.{kept}

-- none of RFC 4511's operations is RFC 4525's increment
abbrev pub is_increment : ModifyOperation → Bool
is_increment Increment = true
is_increment operation = false

-- a change of a recognised type; protocolError (2) for an increment (RFC 4511 4.6, Appendix A.2)
abbrev pub with_change : SchemaModel → ModifyOperation → ℕ → List (List ℕ) → List AttributeModel →
    Result (List AttributeModel) ℕ
with_change s Add t values e = with_added s t values e
with_change s Delete t values e = with_deleted s t values e
with_change s Replace t values e = with_replaced s t values e
with_change s Increment t values e = Err 2

-- One change: protocolError (2) for an increment, undefinedAttributeType (17) where the description is not recognised,
-- then what the change itself refuses.
abbrev pub changed : SchemaModel → ChangeValue → List AttributeModel → Result (List AttributeModel) ℕ
changed s c e =
    refuse (is_increment c.operation) 2
    (and_then (ok_or (find s c.modification.description) 17) (λ t. with_change s c.operation t c.modification.values e))

-- Changes in order, each on what the one before left (RFC 4511 4.6).
abbrev pub all_changed : SchemaModel → List ChangeValue → List AttributeModel → Result (List AttributeModel) ℕ
all_changed s [] e = Ok e
all_changed s (c ∷ cs) e = and_then (changed s c e) (all_changed s cs)

-- The attributes after a modify: the changes in order, then what the relative name and the classes demand at the end.
abbrev pub attributes_changed : SchemaModel → List TypeAndValue → List ChangeValue → List AttributeModel →
    Result (List AttributeModel) ℕ
attributes_changed s rdn cs e = and_then (all_changed s cs e) (kept s rdn e)
