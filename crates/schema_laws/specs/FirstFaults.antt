-- Lines with a fault, and the first of them: RFC 4512 2.5.1 and 4.1.
use Rattle.std.specs.Prelude.{ℕ, List, ◌≤◌, None, Some, Err, slice_get, true, ◌≡◌}
use Rattle.schema_reader.specs.schema_text.Descriptions.{DescriptionModel, first_text_at, texts_at}
use Rattle.schema_reader.specs.schema_text.Texts.{SchemaTextModel, read_text}
use Rattle.schema_reader.specs.schema_meaning.ldap_words.RulesByName.{equality_family, ordering_family, substrings_family, syntax_of}
use Rattle.schema_reader.specs.schema_meaning.Naming.{superior_text, superior_texts, superior_of, find, is_repeated}
use Rattle.schema_reader.specs.schema_meaning.Inheriting.{is_unfit}
use Rattle.schema_reader.specs.Described.{schema_of}
use Rattle.schema_reader.specs.Reading.{required_in, schema_of_text}
use Rattle.schema_reader.specs.declared.error.SchemaError.TheVariants.{BadDescription, UnknownName, NoEquality}

-- a line is so, and no line before it is
pub record IsFirst (is_so : ℕ → Type 0) (line : ℕ) : Type 0 where
  pub here : is_so line
  pub is_first : (n : ℕ) → is_so n → line ≤ n

-- a line is no description, the first one that is none; or its type or class has a name twice, or a name or an object
-- identifier of an earlier one; or its type has rules of two families, or no syntax that its rules are used on
pub data IsBadIn (text : SchemaTextModel) (line : ℕ) : Type 0 where
  is_no_description : text.bad ≡ Some line → IsBadIn text line
  type_repeats : (t : ℕ) (d : DescriptionModel) → slice_get text.types t ≡ Some d → d.line ≡ line →
      is_repeated text.types text.classes d ≡ true → IsBadIn text line
  type_is_unfit : (t : ℕ) (d : DescriptionModel) → slice_get text.types t ≡ Some d → d.line ≡ line →
      is_unfit text.types t ≡ true → IsBadIn text line
  class_repeats : (c : ℕ) (d : DescriptionModel) → slice_get text.classes c ≡ Some d → d.line ≡ line →
      is_repeated text.types text.classes d ≡ true → IsBadIn text line

-- A text that is refused as E12 is refused at its first bad line.
abbrev pub RefusedAtFirstBadLine : Type 0
RefusedAtFirstBadLine = (text : List ℕ) (line : ℕ) → schema_of_text text ≡ Err (BadDescription line) →
    IsFirst (IsBadIn (read_text text)) line

-- a description of a type names a type, a rule or a syntax that is not there
pub data NamesUnknown (types : List DescriptionModel) (d : DescriptionModel) : Type 0 where
  no_such_superior : (w : List ℕ) → superior_text d ≡ Some w → find types w ≡ None → NamesUnknown types d
  no_such_equality : (w : List ℕ) → first_text_at 5 d.fields ≡ Some w → equality_family w ≡ None → NamesUnknown types d
  no_such_ordering : (w : List ℕ) → first_text_at 6 d.fields ≡ Some w → ordering_family w ≡ None → NamesUnknown types d
  no_such_substrings : (w : List ℕ) → first_text_at 7 d.fields ≡ Some w → substrings_family w ≡ None →
      NamesUnknown types d
  no_such_syntax : (w : List ℕ) → first_text_at 8 d.fields ≡ Some w → syntax_of w ≡ None → NamesUnknown types d

-- one of these words calls none of these descriptions
pub record CallsNone (ds : List DescriptionModel) (words : List (List ℕ)) : Type 0 where
  pub place : ℕ
  pub word : List ℕ
  pub at : slice_get words place ≡ Some word
  pub none : find ds word ≡ None

-- a description of a class names a class as its superior, or a type in MUST or MAY, that is not there
pub data ClassNamesUnknown (text : SchemaTextModel) (d : DescriptionModel) : Type 0 where
  no_such_superclass : CallsNone text.classes (superior_texts d) → ClassNamesUnknown text d
  no_such_required : CallsNone text.types (texts_at 12 d.fields) → ClassNamesUnknown text d
  no_such_allowed : CallsNone text.types (texts_at 13 d.fields) → ClassNamesUnknown text d

-- a line names what is not there; the line behind the last one is so where the text lacks the type objectClass or the
-- class top
pub data HasUnknownIn (text : SchemaTextModel) (line : ℕ) : Type 0 where
  in_a_type : (t : ℕ) (d : DescriptionModel) → slice_get text.types t ≡ Some d → d.line ≡ line →
      NamesUnknown text.types d → HasUnknownIn text line
  in_a_class : (c : ℕ) (d : DescriptionModel) → slice_get text.classes c ≡ Some d → d.line ≡ line →
      ClassNamesUnknown text d → HasUnknownIn text line
  is_incomplete : text.behind ≡ line → required_in (schema_of text) ≡ None → HasUnknownIn text line

-- A text that is refused as E13 is refused at the first line that names what is not there.
abbrev pub RefusedAtFirstUnknown : Type 0
RefusedAtFirstUnknown = (text : List ℕ) (line : ℕ) → schema_of_text text ≡ Err (UnknownName line) →
    IsFirst (HasUnknownIn (read_text text)) line

-- a type has an EQUALITY rule: its own, or that of the type that its SUP names (RFC 4512 2.5.1)
pub data HasEquality (types : List DescriptionModel) : ℕ → Type 0 where
  has_its_own : {t : ℕ} (d : DescriptionModel) (w : List ℕ) → slice_get types t ≡ Some d → first_text_at 5 d.fields ≡
      Some w → HasEquality types t
  inherits_one : {t : ℕ} (d : DescriptionModel) (u : ℕ) → slice_get types t ≡ Some d → superior_of types d ≡ Some u →
      HasEquality types u → HasEquality types t

-- the type of a line has no EQUALITY rule, of its own or inherited
pub record LacksEqualityIn (text : SchemaTextModel) (line : ℕ) : Type 0 where
  pub number : ℕ
  pub described : DescriptionModel
  pub at : slice_get text.types number ≡ Some described
  pub is_line : described.line ≡ line
  pub lacks : HasEquality text.types number → ⊥

-- A text that is refused as E15 is refused at the first line of a type without an EQUALITY rule, own or inherited.
abbrev pub RefusedAtFirstLack : Type 0
RefusedAtFirstLack = (text : List ℕ) (line : ℕ) → schema_of_text text ≡ Err (NoEquality line) →
    IsFirst (LacksEqualityIn (read_text text)) line
