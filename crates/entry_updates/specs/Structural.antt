-- The structural object class: RFC 4512 2.4.2.
use Rattle.std.specs.Prelude.{ℕ, List, Bool, true, false, cond, not, nat_eq, Option, None, Some, Result, Ok, filter}
use Rattle.std.specs.List.{list_all}
use Rattle.dir_entry.specs.ldap_schema.Schema.{SchemaModel}
use Rattle.dir_entry.specs.ldap_schema.Superclasses.{is_subclass}
use Rattle.dir_entry.specs.ldap_schema.Lines.{first_of}
use Rattle.dir_entry.specs.Entry.{AttributeModel}
use Rattle.dir_entry.specs.Adding.{refuse}
use Rattle.entry_updates.specs.Classes.{class_values, classes_named, structural_of, is_one_chain, has_single_values, obeys_classes}

-- the first structural class of which each structural one is a superclass, or which it is itself
abbrev pub lowest_of : SchemaModel → List ℕ → Option ℕ
lowest_of s cs = first_of (filter (λ c. list_all (is_subclass s c) (structural_of s cs)) (structural_of s cs))

-- the structural object class: the lowest class of the one chain (RFC 4512 2.4.2); none, where there is no one chain
abbrev pub structural_class : SchemaModel → List ℕ → Option ℕ
structural_class s cs = cond (is_one_chain s cs) (lowest_of s cs) None

-- whether there is a class, and it isn't the one before
abbrev pub is_other_than : Option ℕ → Option ℕ → Bool
is_other_than None before = false
is_other_than (Some c) None = true
is_other_than (Some c) (Some b) = not (nat_eq c b)

-- whether an entry's structural object class is another one than before
abbrev pub changes_class : SchemaModel → List AttributeModel → List AttributeModel → Bool
changes_class s before e =
    is_other_than (structural_class s (classes_named s (class_values s e)))
    (structural_class s (classes_named s (class_values s before)))

-- with its superclasses: constraintViolation (19), objectClassModsProhibited (69), objectClassViolation (65)
abbrev pub kept_completed : SchemaModel → List AttributeModel → List AttributeModel → Result (List AttributeModel) ℕ
kept_completed s before e =
    refuse (not (has_single_values s e)) 19 (refuse (changes_class s before e) 69 (refuse (not (obeys_classes s e)) 65
    (Ok e)))
