-- What the values of an attribute are compared by, and what a refusal says of one test. No contract above names it.
use Rattle.std.specs.Prelude.{ℕ, List, [], Bool, true, ◌≡◌, Option, None, Some}
use Rattle.dir_entry.specs.ldap_words.declared.rule.Rule.{Rule}
use Rattle.dir_entry.specs.ldap_schema.Schema.{SchemaModel}
use Rattle.dir_entry.specs.ldap_schema.Rules.{equality_of}
use Rattle.dir_entry.specs.Entry.{KeyedAttribute}
use Rattle.dir_entry.specs.declared.fault.EntryError.{EntryError}
use Rattle.dir_entry.specs.declared.fault.EntryError.TheVariants.{InvalidAttributeSyntax, NoSuchAttribute, AttributeOrValueExists, ConstraintViolation, ObjectClassViolation, NotAllowedOnRdn, ObjectClassModsProhibited, NoMemory}

-- the keys of an attribute's values, where there is an EQUALITY rule, and else the values
abbrev pub compared_by : Option Rule → KeyedAttribute → List (List ℕ)
compared_by None a = a.values
compared_by (Some r) a = a.keys

-- the keys of its values, or the values where their type has no EQUALITY rule
abbrev pub compared : SchemaModel → KeyedAttribute → List (List ℕ)
compared s a = compared_by (equality_of s a.kind) a

-- the values of an attribute, where there is one
abbrev pub values_held : Option KeyedAttribute → List (List ℕ)
values_held None = []
values_held (Some a) = a.values

-- what a refusal says of the test that is behind this code; of want of memory nothing
abbrev pub RefusesFor : ℕ → Bool → EntryError → Type 0
RefusesFor code test InvalidAttributeSyntax = (code ≡ 21) × (test ≡ true)
RefusesFor code test NoSuchAttribute = (code ≡ 16) × (test ≡ true)
RefusesFor code test AttributeOrValueExists = (code ≡ 20) × (test ≡ true)
RefusesFor code test ConstraintViolation = (code ≡ 19) × (test ≡ true)
RefusesFor code test ObjectClassViolation = (code ≡ 65) × (test ≡ true)
RefusesFor code test NotAllowedOnRdn = (code ≡ 67) × (test ≡ true)
RefusesFor code test ObjectClassModsProhibited = (code ≡ 69) × (test ≡ true)
RefusesFor code test NoMemory = Unit {0}
