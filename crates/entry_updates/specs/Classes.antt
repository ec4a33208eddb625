-- What the classes of an entry demand of it: RFC 4512 2.4 and 3.3.
use Rattle.std.specs.Prelude.{ℕ, List, [], ◌∷◌, ◌++◌, Bool, true, false, cond, not, ◌&&◌, ◌||◌, nat_eq, nat_lt, map, filter, length, Option, None, Some, is_some, slice_get, Result, Ok}
use Rattle.std.specs.List.{list_all, list_any}
use Rattle.dir_entry.specs.ldap_schema.Schema.{ClassModel, SchemaModel, class_named, class_name, type_at}
use Rattle.dir_entry.specs.ldap_schema.Superclasses.{is_among, missing_superclasses, is_subclass}
use Rattle.dir_entry.specs.ldap_schema.ObjectClassType.{object_class_type}
use Rattle.dir_entry.specs.ldap_schema.declared.class.ClassKind.{ClassKind}
use Rattle.dir_entry.specs.ldap_schema.declared.class.ClassKind.TheVariants.{Structural}
use Rattle.dir_entry.specs.Entry.{AttributeModel}
use Rattle.dir_entry.specs.Adding.{refuse, has_type}
use Rattle.std.specs.Option.{option_eq, option_map_or}

-- whether this is the type objectClass
abbrev pub is_object_class : SchemaModel → ℕ → Bool
is_object_class s t = option_eq nat_eq (Some t) (object_class_type s)

-- one more in front, where there is one
abbrev pub with_some : {A : Type 0} → Option A → List A → List A
with_some None xs = xs
with_some (Some x) xs = x ∷ xs

-- the classes that these values name, by a name or an object identifier (RFC 4512 3.3)
abbrev pub classes_named : SchemaModel → List (List ℕ) → List ℕ
classes_named s [] = []
classes_named s (v ∷ vs) = with_some (class_named s v) (classes_named s vs)

-- the first names of these classes
abbrev pub names_of : SchemaModel → List ℕ → List (List ℕ)
names_of s [] = []
names_of s (c ∷ cs) = with_some (class_name s c) (names_of s cs)

-- the first names of the superclasses that are missing among the classes that these values name, in order
abbrev pub missing_names : SchemaModel → List (List ℕ) → List (List ℕ)
missing_names s values = names_of s (missing_superclasses s (classes_named s values))

-- objectClass with the superclasses that are missing; any other attribute as it is
abbrev pub completed_attribute : SchemaModel → AttributeModel → AttributeModel
completed_attribute s a =
    cond (is_object_class s a.kind) (record { kind = a.kind; values = a.values ++ missing_names s a.values }) a

-- The entry with the superclasses that are missing at the end of objectClass, by first name (RFC 4512 3.3).
abbrev pub completed : SchemaModel → List AttributeModel → List AttributeModel
completed s e = map (completed_attribute s) e

-- the values of objectClass
abbrev pub class_values : SchemaModel → List AttributeModel → List (List ℕ)
class_values s [] = []
class_values s (a ∷ e) = cond (is_object_class s a.kind) a.values (class_values s e)

-- an attribute of a SINGLE-VALUE type has at most one value (RFC 4512 4.1.2)
abbrev pub has_single_value : SchemaModel → AttributeModel → Bool
has_single_value s a = not (option_map_or (λ t. t.is_single_value) (type_at s a.kind) false) || nat_lt
    (length a.values) 2

-- whether no attribute of a SINGLE-VALUE type has two values
abbrev pub has_single_values : SchemaModel → List AttributeModel → Bool
has_single_values s e = list_all (has_single_value s) e

-- whether a class of this kind is structural (RFC 4512 2.4.2)
abbrev pub is_structural_kind : ClassKind → Bool
is_structural_kind Structural = true
is_structural_kind kind = false

-- whether a class is structural, where there is one
abbrev pub is_structural_in : Option ClassModel → Bool
is_structural_in None = false
is_structural_in (Some c) = is_structural_kind c.kind

-- whether the class of a number is structural
abbrev pub is_structural : SchemaModel → ℕ → Bool
is_structural s c = is_structural_in (slice_get s.classes c)

-- of two classes one is the other or a superclass of it
abbrev pub are_in_line : SchemaModel → ℕ → ℕ → Bool
are_in_line s a b = is_subclass s a b || is_subclass s b a

-- the structural ones of these classes
abbrev pub structural_of : SchemaModel → List ℕ → List ℕ
structural_of s cs = filter (is_structural s) cs

-- The structural classes form one chain, and there is one (RFC 4512 2.4.2).
abbrev pub is_one_chain : SchemaModel → List ℕ → Bool
is_one_chain s cs = list_any (is_structural s) cs && list_all (λ a. list_all (are_in_line s a) (structural_of s cs))
    (structural_of s cs)

-- the types that a class requires, where there is one
abbrev pub required_in : Option ClassModel → List ℕ
required_in None = []
required_in (Some c) = c.required

-- the types that a class allows besides, where there is one
abbrev pub allowed_in : Option ClassModel → List ℕ
allowed_in None = []
allowed_in (Some c) = c.allowed

-- the types that a class requires, its MUST (RFC 4512 4.1.1)
abbrev pub required : SchemaModel → ℕ → List ℕ
required s c = required_in (slice_get s.classes c)

-- the types that a class allows besides, its MAY (RFC 4512 4.1.1)
abbrev pub allowed : SchemaModel → ℕ → List ℕ
allowed s c = allowed_in (slice_get s.classes c)

-- each type that a class requires is there
abbrev pub has_required : SchemaModel → List AttributeModel → ℕ → Bool
has_required s e c = list_all (λ t. has_type t e) (required s c)

-- whether a class requires or allows a type
abbrev pub is_allowed_by : SchemaModel → ℕ → ℕ → Bool
is_allowed_by s t c = is_among (required s c) t || is_among (allowed s c) t

-- a type that some class requires or allows
abbrev pub is_allowed : SchemaModel → List ℕ → ℕ → Bool
is_allowed s cs t = list_any (is_allowed_by s t) cs

-- each value names a class
abbrev pub are_classes : SchemaModel → List (List ℕ) → Bool
are_classes s values = list_all (λ v. is_some (class_named s v)) values

-- what classes demand of an entry: each required type is there, and each type is required or allowed (RFC 4512 2.4)
abbrev pub obeys : SchemaModel → List ℕ → List AttributeModel → Bool
obeys s cs e = is_one_chain s cs && list_all (has_required s e) cs && list_all (λ a. is_allowed s cs a.kind) e

-- An entry obeys its classes: objectClass is there, each of its values names a class, and these are obeyed (RFC 4512
-- 2.4, 3.3).
abbrev pub obeys_classes : SchemaModel → List AttributeModel → Bool
obeys_classes s e =
    list_any (λ a. is_object_class s a.kind) e && are_classes s (class_values s e)
    && obeys s (classes_named s (class_values s e)) e

-- An entry as it stands: constraintViolation (19) where a SINGLE-VALUE type has two values, then objectClassViolation
-- (65) where its classes are not obeyed (RFC 4511 Appendix A.2).
abbrev pub checked : SchemaModel → List AttributeModel → Result (List AttributeModel) ℕ
checked s e = refuse (not (has_single_values s e)) 19 (refuse (not (obeys_classes s e)) 65 (Ok e))

-- The entry with its superclasses, checked as above.
abbrev pub settled : SchemaModel → List AttributeModel → Result (List AttributeModel) ℕ
settled s e = checked s (completed s e)
