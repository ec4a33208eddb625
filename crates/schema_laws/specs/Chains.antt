-- Chains of SUPs: RFC 4512 2.5.1, 4.1.1 and 4.1.2.
use Rattle.std.specs.Prelude.{ℕ, List, ◌++◌, flat_map, ◌≤◌, None, Some, Ok, Err, slice_get, nat_eq, true, false, ◌≡◌, ◌↔◌}
use Rattle.std.specs.List.{IsDistinct}
use Rattle.ldap_match.specs.ldap_schema.Schema.{SchemaModel, IsUnder}
use Rattle.ldap_match.specs.ldap_schema.Schema as schema
use Rattle.ldap_match.specs.ldap_schema.Superclasses.{is_among, direct_superclasses, with_missing, missing_superclasses, IsSubclass}
use Rattle.schema_reader.specs.schema_text.Descriptions.{DescriptionModel}
use Rattle.schema_reader.specs.schema_text.Texts.{SchemaTextModel, read_text}
use Rattle.schema_reader.specs.schema_meaning.Naming.{superior_text, superior_of}
use Rattle.schema_reader.specs.schema_meaning.Inheriting.{own, inherited, effect_of}
use Rattle.schema_reader.specs.schema_meaning.declared.inheriting.Effect.{Effect}
use Rattle.schema_reader.specs.Described.{type_with, schema_of}
use Rattle.schema_reader.specs.Reading.{is_type_looping, is_class_looping, schema_of_text}
use Rattle.schema_reader.specs.declared.error.SchemaError.TheVariants.{LoopInSup}

-- the rules and the syntax in effect for a type: its own, and what it lacks is inherited from the type that its SUP
-- names, if it has one (RFC 4512 2.5.1)
pub data IsInEffect (types : List DescriptionModel) : ℕ → Effect → Type 0 where
  has_no_superior : {t : ℕ} (d : DescriptionModel) → slice_get types t ≡ Some d → superior_text d ≡ None →
      IsInEffect types t (own d)
  is_below : {t : ℕ} {above : Effect} (d : DescriptionModel) (u : ℕ) → slice_get types t ≡ Some d →
      superior_of types d ≡ Some u → IsInEffect types u above → IsInEffect types t (inherited above (own d))

-- Of a text that is read as a schema, what is in effect for a type is exactly what is found along its chain of SUPs.
abbrev pub EffectsAreInherited : Type 0
EffectsAreInherited = (text : List ℕ) (s : SchemaModel) → schema_of_text text ≡ Ok s →
    (t : ℕ) (d : DescriptionModel) → slice_get (read_text text).types t ≡ Some d → (e : Effect)
    → IsInEffect (read_text text).types t e ↔ (effect_of (read_text text).types t ≡ e)

-- The schema that is read has each type with the rules and the syntax that are in effect for it.
abbrev pub TypesHaveWhatIsInEffect : Type 0
TypesHaveWhatIsInEffect = (text : List ℕ) (s : SchemaModel) → schema_of_text text ≡ Ok s →
    (t : ℕ) (d : DescriptionModel) → slice_get (read_text text).types t ≡ Some d → (e : Effect)
    → IsInEffect (read_text text).types t e → slice_get s.types t ≡ Some (type_with (read_text text).types d e)

-- the SUP of a type leads back to it, in one step or more
pub record LeadsBack (s : SchemaModel) (t : ℕ) : Type 0 where
  pub first : ℕ
  pub goes : schema.superior_of s.types t ≡ Some first
  pub comes_back : IsUnder s first t

-- A type is one with a loop exactly where a chain of SUPs leads from it back to it (RFC 4512 4.1.2).
abbrev pub LoopsOfTypesLeadBack : Type 0
LoopsOfTypesLeadBack = (text : List ℕ) (t : ℕ) → (is_type_looping (schema_of (read_text text)).types t ≡ true) ↔
    LeadsBack (schema_of (read_text text)) t

-- a superclass of a class leads back to it, in one step or more
pub record ClassLeadsBack (s : SchemaModel) (c : ℕ) : Type 0 where
  pub first : ℕ
  pub goes : is_among (direct_superclasses s.classes c) first ≡ true
  pub comes_back : IsSubclass s first c

-- A class is one with a loop exactly where a chain of superclasses leads from it back to it (RFC 4512 4.1.1).
abbrev pub LoopsOfClassesLeadBack : Type 0
LoopsOfClassesLeadBack = (text : List ℕ) (c : ℕ) → (is_class_looping (schema_of (read_text text)).classes c ≡ true) ↔
    ClassLeadsBack (schema_of (read_text text)) c

-- the chain of SUPs of a type or a class of this line leads back to it
pub data HasLoopIn (text : SchemaTextModel) (line : ℕ) : Type 0 where
  type_comes_back : (t : ℕ) (d : DescriptionModel) → slice_get text.types t ≡ Some d → d.line ≡ line →
      LeadsBack (schema_of text) t → HasLoopIn text line
  class_comes_back : (c : ℕ) (d : DescriptionModel) → slice_get text.classes c ≡ Some d → d.line ≡ line →
      ClassLeadsBack (schema_of text) c → HasLoopIn text line

-- the first line with such a type or class
pub record IsFirstLoop (text : SchemaTextModel) (line : ℕ) : Type 0 where
  pub has_loop : HasLoopIn text line
  pub is_first : (n : ℕ) → HasLoopIn text n → line ≤ n

-- A text that is refused for a loop (E14) is refused at the first line with one.
abbrev pub RefusedAtFirstLoop : Type 0
RefusedAtFirstLoop = (text : List ℕ) (line : ℕ) → schema_of_text text ≡ Err (LoopInSup line) →
    IsFirstLoop (read_text text) line

-- A text that is read as a schema has no loop.
abbrev pub ReadTextsHaveNoLoop : Type 0
ReadTextsHaveNoLoop = (text : List ℕ) (s : SchemaModel) → schema_of_text text ≡ Ok s → (line : ℕ) →
    HasLoopIn (read_text text) line → ⊥

-- a class is above one of these
pub record IsAbove (s : SchemaModel) (cs : List ℕ) (c : ℕ) : Type 0 where
  pub below : ℕ
  pub is_one : is_among cs below ≡ true
  pub is_above : IsSubclass s below c

-- a class is above one of these, and is none of them (RFC 4512 2.4)
pub record IsMissing (s : SchemaModel) (cs : List ℕ) (c : ℕ) : Type 0 where
  pub above : IsAbove s cs c
  pub is_not_there : is_among cs c ≡ false

-- The superclasses of classes that are missing are those above one of them that are none of them.
abbrev pub MissingAreAbove : Type 0
MissingAreAbove = (text : List ℕ) (s : SchemaModel) → schema_of_text text ≡ Ok s → (cs : List ℕ) (c : ℕ) →
    (is_among (missing_superclasses s cs) c ≡ true) ↔ IsMissing s cs c

-- Each of them is there once.
abbrev pub MissingStandOnce : Type 0
MissingStandOnce = (text : List ℕ) (s : SchemaModel) → schema_of_text text ≡ Ok s → (cs : List ℕ) →
    IsDistinct nat_eq (missing_superclasses s cs)

-- They come in turn: behind these classes, for each of these and of the missing ones in their order, its direct
-- superclasses in the order written, each where it comes first. So a direct superclass of an earlier one comes before
-- one that only later ones have.
abbrev pub MissingComeInTurn : Type 0
MissingComeInTurn = (text : List ℕ) (s : SchemaModel) → schema_of_text text ≡ Ok s → (cs : List ℕ)
    → cs ++ missing_superclasses s cs ≡ with_missing cs (flat_map (direct_superclasses s.classes)
    (cs ++ missing_superclasses s cs))
