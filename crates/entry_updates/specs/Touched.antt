-- Which attributes a modify may touch: all others are the same behind it.
use Rattle.std.specs.Prelude.{ℕ, List, [], ◌∷◌, ◌++◌, Bool, true, false, cond, not, ◌&&◌, nat_lt, length, Option, None, Some, is_some}
use Rattle.entry_changes.specs.ldap_schema.Schema.{SchemaModel, find}
use Rattle.entry_changes.specs.ldap_schema.ObjectClassType.{object_class_type}
use Rattle.entry_changes.specs.ldap_schema.Rules.{equality_of}
use Rattle.ldap_op.specs.ldap_parts.UpdateValues.{ChangeValue}
use Rattle.ldap_op.specs.ldap_parts.declared.modify.ModifyOperation.{ModifyOperation}
use Rattle.ldap_op.specs.ldap_parts.declared.modify.ModifyOperation.TheVariants.{Add, Delete, Replace, Increment}
use Rattle.entry_changes.specs.dir_entry.Entry.{AttributeModel, are_in_syntax}
use Rattle.entry_changes.specs.Editing.{is_empty}
use Rattle.entry_updates.specs.Classes.{with_some}

-- whether a change leaves the values that it doesn't name as they are
abbrev pub is_of_values : ModifyOperation → List (List ℕ) → Bool
is_of_values Add values = true
is_of_values Delete values = not (is_empty values)
is_of_values Replace values = false
is_of_values Increment values = false

-- whether a change touches of a type the values that it names alone: at most 64, of a type with an EQUALITY rule
abbrev pub is_by_values : SchemaModel → ChangeValue → ℕ → Bool
is_by_values s c t =
    is_of_values c.operation c.modification.values && (nat_lt (length c.modification.values) 65
    && (is_some (equality_of s t) && are_in_syntax s t c.modification.values))

-- the type of a change that touches all values of a type, if it is recognised
abbrev pub type_whole : SchemaModel → ChangeValue → Option ℕ → List ℕ
type_whole s c None = []
type_whole s c (Some t) = cond (is_by_values s c t) [] (t ∷ [])

-- the values of a change that touches these alone
abbrev pub values_named : SchemaModel → ChangeValue → Option ℕ → List AttributeModel
values_named s c None = []
values_named s c (Some t) = cond (is_by_values s c t) (record { kind = t; values = c.modification.values } ∷ []) []

-- the types that changes touch whole
abbrev pub types_whole : SchemaModel → List ChangeValue → List ℕ
types_whole s [] = []
types_whole s (c ∷ cs) = type_whole s c (find s c.modification.description) ++ types_whole s cs

-- The values that changes add or delete by name: of their types, where no change touches these whole, no others may be
-- there on one side of a modify alone.
abbrev pub all_values_named : SchemaModel → List ChangeValue → List AttributeModel
all_values_named s [] = []
all_values_named s (c ∷ cs) = values_named s c (find s c.modification.description) ++ all_values_named s cs

-- the types of attributes that have no EQUALITY rule
abbrev pub types_unruled : SchemaModel → List AttributeModel → List ℕ
types_unruled s [] = []
types_unruled s (a ∷ e) = cond (is_some (equality_of s a.kind)) (types_unruled s e) (a.kind ∷ types_unruled s e)

-- The types of which all values and keys may be others behind a modify: those that changes touch whole; objectClass;
-- and those without an EQUALITY rule, whose keys don't follow from values.
abbrev pub types_touched : SchemaModel → List ChangeValue → List AttributeModel → List ℕ
types_touched s cs e = with_some (object_class_type s) (types_whole s cs ++ types_unruled s e)
