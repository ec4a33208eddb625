-- What is wrong with the line of a schema's text that is refused (RFC 4512 4.1): the text, the refusal and the line's
-- number come in, a sentence goes out.
use Rattle.std.specs.Prelude.{◌≡◌, ◌++◌, ℕ, ◌-◌, List, Bool, true, false, nat_eq, codes, unwrap_or, Option, None, Some}
use Rattle.schema_meaning.specs.Inheriting.{effect_of}
use Rattle.schema_meaning.specs.schema_text.Descriptions.{DescriptionModel, first_text_at}
use Rattle.schema_meaning.specs.schema_text.Texts.{SchemaTextModel, read_text}
use Rattle.schema_faults.specs.declared.refusal.SchemaRefusal.{SchemaRefusal}
use Rattle.schema_faults.specs.declared.refusal.SchemaRefusal.TheVariants as refusal
use Rattle.schema_faults.specs.Descriptions.{line_sentence}
use Rattle.schema_faults.specs.Indexes.{line_of}
use Rattle.schema_faults.specs.Loops.{type_loop, IsClassLoop}
use Rattle.schema_faults.specs.Repeats.{in_line, repeated}
use Rattle.schema_faults.specs.Rules.{unfit}
use Rattle.schema_faults.specs.Schemas.{title, unknown_of_type, unknown_of_class, unknown_at_end}
use Rattle.text_faults.specs.Words.{word_shown}

-- a type that is bad beside the others: what it repeats, or else its rules
abbrev pub bad_type : SchemaTextModel → ℕ × DescriptionModel → List ℕ
bad_type s t = unwrap_or (repeated s t.1) (unfit t.1 (effect_of s.types t.0))

-- a class that is bad beside the others, or a line of neither
abbrev pub bad_class : SchemaTextModel → Option (ℕ × DescriptionModel) → List ℕ
bad_class s None = codes "a name or an object identifier is given before"
bad_class s (Some d) = unwrap_or (repeated s d.1) (codes "a name or an object identifier is given before")

-- E12: the line has a type, or a class, that is bad beside the others
abbrev pub bad_beside : SchemaTextModel → Option (ℕ × DescriptionModel) → Option (ℕ × DescriptionModel) → List ℕ
bad_beside s None class = bad_class s class
bad_beside s (Some t) class = bad_type s t

-- the line of a class that names what isn't there; what each schema has, where the line has no class
abbrev pub unknown_in_class : SchemaTextModel → Option (ℕ × DescriptionModel) → List ℕ
unknown_in_class s None = unknown_at_end s
unknown_in_class s (Some d) = unknown_of_class s d.1

-- E13: the line names what is not there, or it is behind the last one
abbrev pub unknown_in : SchemaTextModel → Option (ℕ × DescriptionModel) → Option (ℕ × DescriptionModel) → List ℕ
unknown_in s None class = unknown_in_class s class
unknown_in s (Some t) class = unknown_of_type s t.1

-- what a sentence says of the class whose SUP leads back to it
abbrev pub IsLoopOfClass : SchemaTextModel → Option (ℕ × DescriptionModel) → List ℕ → Type 0
IsLoopOfClass s None sentence = sentence ≡ codes "SUP leads back"
IsLoopOfClass s (Some d) sentence = IsClassLoop s.classes d.0 sentence

-- E14: the SUP of the line leads back to it
abbrev pub IsLoop : SchemaTextModel → Option (ℕ × DescriptionModel) → Option (ℕ × DescriptionModel) → List ℕ → Type 0
IsLoop s None class sentence = IsLoopOfClass s class sentence
IsLoop s (Some t) class sentence = sentence ≡ type_loop s.types t.0

-- a type without EQUALITY, by its SUP
abbrev pub lacks_equality : List ℕ → Option (List ℕ) → List ℕ
lacks_equality name None = codes "'" ++ name ++ codes "' has no EQUALITY, and no SUP to have it from"
lacks_equality name (Some above) = codes "'" ++ name ++ codes "' has no EQUALITY, and none by its SUP '" ++ word_shown
    above ++ codes "'"

-- E15: the line has a type without EQUALITY
abbrev pub no_equality : Option (ℕ × DescriptionModel) → List ℕ
no_equality None = codes "no EQUALITY"
no_equality (Some t) = lacks_equality (title t.1) (first_text_at 4 t.1.fields)

-- what is wrong beside the other lines
abbrev pub IsFault : SchemaTextModel → SchemaRefusal → ℕ → List ℕ → Type 0
IsFault s refusal.BadDescription line sentence = sentence ≡ bad_beside s (in_line s.types line) (in_line s.classes line)
IsFault s refusal.UnknownName line sentence = sentence ≡ unknown_in s (in_line s.types line) (in_line s.classes line)
IsFault s refusal.Loop line sentence = IsLoop s (in_line s.types line) (in_line s.classes line) sentence
IsFault s refusal.NoEquality line sentence = sentence ≡ no_equality (in_line s.types line)

-- whether there is a line, and it is this one
abbrev pub is_line : ℕ → Option ℕ → Bool
is_line line None = false
is_line line (Some bad) = nat_eq bad line

-- the line is refused as the first that is no description
abbrev pub is_no_description : SchemaTextModel → SchemaRefusal → ℕ → Bool
is_no_description s refusal.BadDescription line = is_line line s.bad
is_no_description s refusal.UnknownName line = false
is_no_description s refusal.Loop line = false
is_no_description s refusal.NoEquality line = false

-- what is wrong with a line that is no description is wrong with its form, else it is wrong beside the other lines
abbrev pub IsSentenceBy : Bool → List ℕ → SchemaRefusal → ℕ → List ℕ → Type 0
IsSentenceBy true text why line sentence = sentence ≡ line_sentence (line_of text (line - 1))
IsSentenceBy false text why line sentence = IsFault (read_text text) why line sentence

-- What a sentence says of the line of this number, counted from 1, that is refused so.
abbrev pub IsSchemaSentence : List ℕ → SchemaRefusal → ℕ → List ℕ → Type 0
IsSchemaSentence text why line sentence = IsSentenceBy (is_no_description (read_text text) why line) text why line
    sentence
