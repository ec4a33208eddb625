-- What an entry's relative name demands of it: RFC 4512 2.3.2 and RFC 4511 4.7, 4.9.
use Rattle.std.specs.Prelude.{ℕ, List, [], ◌∷◌, Bool, cond, not, ◌&&◌, ◌||◌, nat_eq, Result, Ok, Err}
use Rattle.std.specs.List.{list_all, list_any}
use Rattle.dir_entry.specs.ldap_schema.Schema.{SchemaModel}
use Rattle.dir_entry.specs.ldap_dn.Names.{TypeAndValue}
use Rattle.dir_entry.specs.Entry.{AttributeModel}
use Rattle.dir_entry.specs.Values.{is_equivalent}
use Rattle.entry_changes.specs.Editing.{values_of, holds, with_added, with_deleted}

-- what comes after a step that may refuse
abbrev pub and_then : {A B : Type 0} → Result A ℕ → (A → Result B ℕ) → Result B ℕ
and_then (Err code) next = Err code
and_then (Ok x) next = next x

-- whether an entry holds a value of a type
abbrev pub has_value : SchemaModel → List AttributeModel → TypeAndValue → Bool
has_value s e p = holds s p.kind (values_of p.kind e) p.value

-- a value of a relative name joins its attribute at the end, unless it is held
abbrev pub with_value : SchemaModel → TypeAndValue → List AttributeModel → Result (List AttributeModel) ℕ
with_value s p e = cond (has_value s e p) (Ok e) (with_added s p.kind (p.value ∷ []) e)

-- The entry with the values of a relative name that it lacks (RFC 4511 4.7, 4.9).
abbrev pub with_rdn : SchemaModel → List TypeAndValue → List AttributeModel → Result (List AttributeModel) ℕ
with_rdn s [] e = Ok e
with_rdn s (p ∷ ps) e = and_then (with_value s p e) (with_rdn s ps)

-- two types with values are one where the values are equivalent
abbrev pub is_same_value : SchemaModel → TypeAndValue → TypeAndValue → Bool
is_same_value s p q = nat_eq p.kind q.kind && is_equivalent s p.kind p.value q.value

-- a value of the former relative name leaves, unless it is in the new one too
abbrev pub without_value : SchemaModel → List TypeAndValue → TypeAndValue → List AttributeModel →
    Result (List AttributeModel) ℕ
without_value s new p e = cond (list_any (is_same_value s p) new || not (has_value s e p)) (Ok e)
    (with_deleted s p.kind (p.value ∷ []) e)

-- The entry without the values of its former relative name that are not in the new one; an attribute left without
-- values is gone (RFC 4511 4.9, deleteoldrdn).
abbrev pub without_rdn : SchemaModel → List TypeAndValue → List TypeAndValue → List AttributeModel →
    Result (List AttributeModel) ℕ
without_rdn s new [] e = Ok e
without_rdn s new (p ∷ ps) e = and_then (without_value s new p e) (without_rdn s new ps)

-- An entry holds the values of its relative name (RFC 4512 2.3.2).
abbrev pub has_rdn : SchemaModel → List TypeAndValue → List AttributeModel → Bool
has_rdn s rdn e = list_all (has_value s e) rdn
