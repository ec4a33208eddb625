-- Changes of an entry's attributes: RFC 4511 4.6.
use Rattle.std.specs.Prelude.{ℕ, ◌+◌, List, [], ◌∷◌, ◌++◌, Bool, true, false, not, nat_eq, take, drop, filter, Option, None, Some, slice_get, Result, Ok}
use Rattle.std.specs.List.{list_all, list_any, prefix_len}
use Rattle.dir_entry.specs.ldap_schema.Schema.{SchemaModel}
use Rattle.dir_entry.specs.Entry.{AttributeModel, are_in_syntax}
use Rattle.dir_entry.specs.Values.{is_equivalent, has_repeats}
use Rattle.dir_entry.specs.Adding.{refuse, has_type}

-- where the attribute of a type stands; the end, where there is none
abbrev pub place : ℕ → List AttributeModel → ℕ
place t e = prefix_len (λ a. not (nat_eq a.kind t)) e

-- the values of an attribute; none, where it isn't there
abbrev pub values_in : Option AttributeModel → List (List ℕ)
values_in None = []
values_in (Some a) = a.values

-- the values of a type; none, where it is not there
abbrev pub values_of : ℕ → List AttributeModel → List (List ℕ)
values_of t e = values_in (slice_get e (place t e))

-- an attribute has at least one value (RFC 4512 2.2)
abbrev pub attribute_with : ℕ → List (List ℕ) → List AttributeModel
attribute_with t [] = []
attribute_with t (v ∷ vs) = record { kind = t; values = v ∷ vs } ∷ []

-- the entry with these values of a type in the place of its own; without values the attribute is gone, and a new one
-- goes last
abbrev pub with_values_of : ℕ → List (List ℕ) → List AttributeModel → List AttributeModel
with_values_of t values e = take (place t e) e ++ attribute_with t values ++ drop (place t e + 1) e

-- one of the values is equivalent to this one
abbrev pub holds : SchemaModel → ℕ → List (List ℕ) → List ℕ → Bool
holds s t values v = list_any (is_equivalent s t v) values

-- whether a change names no value
abbrev pub is_empty : List (List ℕ) → Bool
is_empty [] = true
is_empty (v ∷ vs) = false

-- values that may stand together: invalidAttributeSyntax (21) where one is not in the type's syntax, then
-- attributeOrValueExists (20) where two are equivalent (RFC 4511 Appendix A.2)
abbrev pub if_distinct : {A : Type 0} → SchemaModel → ℕ → List (List ℕ) → Result A ℕ → Result A ℕ
if_distinct s t values rest = refuse (not (are_in_syntax s t values)) 21 (refuse (has_repeats s t values) 20 rest)

-- A change that adds values, at the end of their attribute: constraintViolation (19) without a value, 21 and 20 as
-- above, then 20 where a value is held (RFC 4511 4.6, Appendix A.2).
abbrev pub with_added : SchemaModel → ℕ → List (List ℕ) → List AttributeModel → Result (List AttributeModel) ℕ
with_added s t values e =
    refuse (is_empty values) 19
    (if_distinct s t values (refuse (list_any (holds s t (values_of t e)) values) 20
    (Ok (with_values_of t (values_of t e ++ values) e))))

-- a change that deletes an attribute whole: noSuchAttribute (16) where it is not there
abbrev pub without_attribute : ℕ → List AttributeModel → Result (List AttributeModel) ℕ
without_attribute t e = refuse (not (has_type t e)) 16 (Ok (with_values_of t [] e))

-- the values that are not equivalent to one of these
abbrev pub values_left : SchemaModel → ℕ → List (List ℕ) → List (List ℕ) → List (List ℕ)
values_left s t deleted values = filter (λ v. not (holds s t deleted v)) values

-- a change that deletes values: invalidAttributeSyntax (21), then noSuchAttribute (16) where one is not held
abbrev pub without_values : SchemaModel → ℕ → List (List ℕ) → List AttributeModel → Result (List AttributeModel) ℕ
without_values s t values e =
    refuse (not (are_in_syntax s t values)) 21
    (refuse (not (list_all (holds s t (values_of t e)) values)) 16
    (Ok (with_values_of t (values_left s t values (values_of t e)) e)))

-- A change that deletes values, or the attribute whole where no value is given; an attribute of which all values are
-- deleted is gone (RFC 4511 4.6, Appendix A.2).
abbrev pub with_deleted : SchemaModel → ℕ → List (List ℕ) → List AttributeModel → Result (List AttributeModel) ℕ
with_deleted s t [] e = without_attribute t e
with_deleted s t (v ∷ vs) e = without_values s t (v ∷ vs) e

-- A change that replaces all values: 21 and 20 as above. Without a value the attribute is gone, if it was there (RFC
-- 4511 4.6).
abbrev pub with_replaced : SchemaModel → ℕ → List (List ℕ) → List AttributeModel → Result (List AttributeModel) ℕ
with_replaced s t values e = if_distinct s t values (Ok (with_values_of t values e))
