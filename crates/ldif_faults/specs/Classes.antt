-- Which rule of its classes a record of LDIF breaks (RFC 4512 2.4): a schema and the record come in, a line's number
-- and a sentence go out. The types of the name's first part count as given.
use Rattle.std.specs.Prelude.{◌++◌, ◌&&◌, ℕ, ◌+◌, List, [], ◌∷◌, Bool, false, true, not, nat_eq, nat_lt, cond, codes, is_none, length, map, slice_get, zero, suc, Option, None, Some}
use Rattle.std.specs.List.{filter, last_or}
use Rattle.std.specs.Option.{option_to_list, unwrap_or}
use Rattle.ldap_match.specs.ldap_schema.Lines.{are_all_in_line}
use Rattle.ldap_match.specs.ldap_schema.Schema.{SchemaModel, TypeModel, ClassModel, find, class_named, class_name, first_name_of, type_at}
use Rattle.ldap_match.specs.ldap_schema.Superclasses.{is_among, missing_superclasses, is_subclass}
use Rattle.ldap_match.specs.ldap_schema.declared.class.ClassKind.{ClassKind}
use Rattle.ldap_match.specs.ldap_schema.declared.class.ClassKind.TheVariants as kind
use Rattle.ldif_faults.specs.Placed.{LineModel, PlacedModel, Told, at_name, at_line}
use Rattle.ldif_faults.specs.Values.{first_line, own_pairs, is_object_class, is_number, no_class}
use Rattle.text_faults.specs.Words.{word_shown}

-- the class that a line of objectClass names
abbrev pub class_in : SchemaModel → LineModel → Option ℕ
class_in s line = cond (is_object_class s line) (class_named s line.octets) None

-- the classes that these lines name
abbrev pub classes_in : SchemaModel → List LineModel → List ℕ
classes_in s [] = []
classes_in s (line ∷ lines) = option_to_list (class_in s line) ++ classes_in s lines

-- the classes of a record, those above them too (RFC 4512 2.4)
abbrev pub classes_of : SchemaModel → List LineModel → List ℕ
classes_of s lines = classes_in s lines ++ missing_superclasses s (classes_in s lines)

-- a line of objectClass that names no class of the schema
abbrev pub is_unknown_class : SchemaModel → LineModel → Bool
is_unknown_class s line = is_object_class s line && is_none (class_named s line.octets)

-- the last of them
abbrev pub unknown_class : SchemaModel → List LineModel → Option LineModel
unknown_class s lines = last_or None (filter (is_unknown_class s) lines)

-- the types that lines give values of
abbrev pub types_in : SchemaModel → List LineModel → List ℕ
types_in s [] = []
types_in s (line ∷ lines) = option_to_list (find s line.description) ++ types_in s lines

-- the types of a record's values, and then those of the first part of its name
abbrev pub given : SchemaModel → PlacedModel → List ℕ
given s r = types_in s r.lines ++ map (λ v. v.kind) (own_pairs s r.name)

-- types of which those below a number count
pub record TypesModel : Type 0 where
  pub count : ℕ
  pub types : List ℕ

-- whether a type is among these and counts
abbrev pub has : TypesModel → ℕ → Bool
has ts t = nat_lt t ts.count && is_among ts.types t

-- types, as far as they are the schema's
abbrev pub types_of : SchemaModel → List ℕ → TypesModel
types_of s types = record { count = length s.types; types = types }

-- what a class requires, and what it allows
abbrev pub required_in : Option ClassModel → List ℕ
required_in None = []
required_in (Some c) = c.required

-- the types that the class of a number requires
abbrev pub required_of : SchemaModel → ℕ → List ℕ
required_of s c = required_in (slice_get s.classes c)

-- the types that a class requires or allows
abbrev pub allowed_in : Option ClassModel → List ℕ
allowed_in None = []
allowed_in (Some c) = c.required ++ c.allowed

-- the types that these classes require or allow
abbrev pub allowed : SchemaModel → List ℕ → List ℕ
allowed s [] = []
allowed s (c ∷ cs) = allowed_in (slice_get s.classes c) ++ allowed s cs

-- the structural ones of classes
abbrev pub is_structural_kind : ClassKind → Bool
is_structural_kind kind.Abstract = false
is_structural_kind kind.Structural = true
is_structural_kind kind.Auxiliary = false

-- whether a class is structural, where there is one
abbrev pub is_structural_in : Option ClassModel → Bool
is_structural_in None = false
is_structural_in (Some c) = is_structural_kind c.kind

-- the structural ones of these classes (RFC 4512 2.4.2)
abbrev pub structural : SchemaModel → List ℕ → List ℕ
structural s classes = filter (λ c. is_structural_in (slice_get s.classes c)) classes

-- a type and a class by their first names
abbrev pub title_in : Option TypeModel → List ℕ
title_in None = []
title_in (Some t) = first_name_of t.oid t.names

-- a type's first name, as a sentence shows it
abbrev pub type_title : SchemaModel → ℕ → List ℕ
type_title s t = word_shown (title_in (type_at s t))

-- a class's first name, as a sentence shows it
abbrev pub class_title : SchemaModel → ℕ → List ℕ
class_title s c = word_shown (unwrap_or (class_name s c) [])

-- the first of types that isn't among these
abbrev pub lacks : TypesModel → List ℕ → Option ℕ
lacks ts required = slice_get (filter (λ t. not (has ts t)) required) 0

-- a type that a class requires, and that has no value
abbrev pub missing : SchemaModel → ℕ → ℕ → List ℕ
missing s t c = codes "no value of '" ++ type_title s t ++ codes "', which the class '" ++ class_title s c ++ codes
    "' requires"

-- the sentence of a required type that is missing, or else what the other classes say
abbrev pub missing_or : SchemaModel → ℕ → Option ℕ → Option (List ℕ) → Option (List ℕ)
missing_or s c None others = others
missing_or s c (Some t) others = Some (missing s t c)

-- the first class that requires a type that isn't among these
abbrev pub first_missing : SchemaModel → TypesModel → List ℕ → Option (List ℕ)
first_missing s ts [] = None
first_missing s ts (c ∷ cs) = missing_or s c (lacks ts (required_of s c)) (first_missing s ts cs)

-- the lowest of so many numbers, from this one on, that is so
abbrev pub lowest : (ℕ → Bool) → ℕ → ℕ → Option ℕ
lowest is_so t zero = None
lowest is_so t (suc k) = cond (is_so t) (Some t) (lowest is_so (t + 1) k)

-- the first type that is among some and not among others
abbrev pub foreign : TypesModel → TypesModel → Option ℕ
foreign ts us = lowest (λ t. has ts t && not (has us t)) 0 ts.count

-- a sentence that names no rule, where none can be told
abbrev pub some_rule : List ℕ
some_rule = codes "the entry breaks a rule of its classes"

-- a type that no class allows
abbrev pub not_allowed : SchemaModel → ℕ → List ℕ
not_allowed s t = codes "'" ++ type_title s t ++ codes "' is allowed by none of the entry's classes"

-- a sentence of a line, or else of the whole record
abbrev pub at_line_or : PlacedModel → List ℕ → Option LineModel → Told
at_line_or r sentence None = at_name r sentence
at_line_or r sentence (Some line) = at_line line sentence

-- a type that no class allows, at its first value, or at the name that gives it; without one, no rule is named
abbrev pub foreign_by : SchemaModel → PlacedModel → Option ℕ → Told
foreign_by s r None = at_name r some_rule
foreign_by s r (Some t) = at_line_or r (not_allowed s t) (first_line (λ line. is_number t (find s line.description))
    r.lines)

-- types that are missing come before those that aren't allowed
abbrev pub bad_types : SchemaModel → PlacedModel → TypesModel → List ℕ → Option (List ℕ) → Told
bad_types s r ts classes (Some sentence) = at_name r sentence
bad_types s r ts classes None = foreign_by s r (foreign ts (types_of s (allowed s classes)))

-- the structural classes come before types: there are some, and each two are in line
abbrev pub by_chain : SchemaModel → PlacedModel → TypesModel → List ℕ → Bool → Told
by_chain s r ts classes is_chain =
    cond is_chain (bad_types s r ts classes (first_missing s ts classes))
    (at_name r (codes "of two STRUCTURAL classes of the entry neither is above the other"))

-- the first rule that is broken: there is a structural class, each two of these are in line, and then the types
abbrev pub demanded_by : SchemaModel → PlacedModel → TypesModel → List ℕ → List ℕ → Told
demanded_by s r ts classes structural =
    cond (nat_eq (length structural) 0) (at_name r (codes "none of the entry's classes is STRUCTURAL"))
    (by_chain s r ts classes (are_all_in_line (is_subclass s) structural))

-- what the classes of a record demand; a record without classes has no objectClass
abbrev pub demanded : SchemaModel → PlacedModel → List ℕ → Told
demanded s r [] = at_name r (codes "the record has no objectClass")
demanded s r (c ∷ cs) = demanded_by s r (types_of s (given s r)) (c ∷ cs) (structural s (c ∷ cs))

-- a class that the schema lacks comes before what the known ones demand
abbrev pub broken_class_by : SchemaModel → PlacedModel → Option LineModel → Told
broken_class_by s r None = demanded s r (classes_of s r.lines)
broken_class_by s r (Some line) = at_line line (no_class line.octets)

-- 65: which rule of its classes a record breaks
abbrev pub broken_class : SchemaModel → PlacedModel → Told
broken_class s r = broken_class_by s r (unknown_class s r.lines)
