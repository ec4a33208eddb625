-- One attribute more: RFC 4511 4.7.
use Rattle.std.specs.Prelude.{◌≡◌, ℕ, List, [], ◌∷◌, ◌++◌, Bool, false, cond, not, ◌||◌, nat_eq, Result, Ok, Err}
use Rattle.std.specs.List.{list_any}
use Rattle.ldap_match.specs.ldap_schema.Schema.{SchemaModel}
use Rattle.dir_entry.specs.Entry.{AttributeModel, are_in_syntax}
use Rattle.dir_entry.specs.Values.{has_repeats}
use Rattle.dir_entry.specs.declared.fault.EntryError.{EntryError}
use Rattle.dir_entry.specs.declared.fault.EntryError.TheVariants.{InvalidAttributeSyntax, NoSuchAttribute, AttributeOrValueExists, ConstraintViolation, ObjectClassViolation, NotAllowedOnRdn, ObjectClassModsProhibited, NoMemory}

-- a check: where it holds, this result code is the answer, else what comes after it
abbrev pub refuse : {A : Type 0} → Bool → ℕ → Result A ℕ → Result A ℕ
refuse test code rest = cond test (Err code) rest

-- whether an entry has an attribute of this type
abbrev pub has_type : ℕ → List AttributeModel → Bool
has_type t e = list_any (λ a. nat_eq a.kind t) e

-- The entry with one attribute more at its end; invalidAttributeSyntax (21) where a value is not in the type's syntax,
-- then attributeOrValueExists (20) where two values are equivalent or the type was given before (RFC 4511 4.7, Appendix
-- A.2).
abbrev pub with_attribute : SchemaModel → ℕ → List (List ℕ) → List AttributeModel → Result (List AttributeModel) ℕ
with_attribute s t values e =
    refuse (not (are_in_syntax s t values)) 21
    (refuse (has_type t e || has_repeats s t values) 20 (Ok (e ++ record { kind = t; values = values } ∷ [])))

-- what a refusal says of whether the values are in their syntax
abbrev pub IsInvalid : EntryError → Bool → Type 0
IsInvalid InvalidAttributeSyntax valid = valid ≡ false
IsInvalid NoSuchAttribute valid = ⊥
IsInvalid AttributeOrValueExists valid = ⊥
IsInvalid ConstraintViolation valid = ⊥
IsInvalid ObjectClassViolation valid = ⊥
IsInvalid NotAllowedOnRdn valid = ⊥
IsInvalid ObjectClassModsProhibited valid = ⊥
IsInvalid NoMemory valid = Unit {0}

-- what a refusal says of the entry that is asked for: its result code (RFC 4511 Appendix A.2); of want of memory
-- nothing
abbrev pub Refuses : {A : Type 0} → EntryError → Result A ℕ → Type 0
Refuses InvalidAttributeSyntax asked = asked ≡ Err 21
Refuses NoSuchAttribute asked = asked ≡ Err 16
Refuses AttributeOrValueExists asked = asked ≡ Err 20
Refuses ConstraintViolation asked = asked ≡ Err 19
Refuses ObjectClassViolation asked = asked ≡ Err 65
Refuses NotAllowedOnRdn asked = asked ≡ Err 67
Refuses ObjectClassModsProhibited asked = asked ≡ Err 69
Refuses NoMemory asked = Unit {0}
