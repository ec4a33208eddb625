-- A schema's text, line by line.
use Rattle.std.specs.Prelude.{ℕ, ◌+◌, ◌-◌, List, [], ◌∷◌, ◌++◌, length, map, take, drop, slice_get, Bool, true, cond, Option, None, Some, nat_eq, nat_lt, codes}
use Rattle.std.specs.List.{slice_split}
use Rattle.schema_text.specs.Words.{is_same_word, ends_with}
use Rattle.schema_text.specs.Descriptions.{DescriptionModel, description_of}
use Rattle.schema_text.specs.declared.keyword.Section.{Section}
use Rattle.schema_text.specs.declared.keyword.Section.TheVariants.{AttributeTypes, ObjectClasses}
use Rattle.ldap_words.specs.Words.{part_or_nothing}

-- less one CR at the end
abbrev pub without_return : List ℕ → List ℕ
without_return l = cond (ends_with 13 l) (take (length l - 1) l) l

-- what stands behind the last LF
abbrev pub last_part : List (List ℕ) → List ℕ
last_part parts = part_or_nothing (slice_get parts (length parts - 1))

-- what stands before each LF
abbrev pub but_last : List (List ℕ) → List (List ℕ)
but_last parts = take (length parts - 1) parts

-- what stands behind the last LF as a line, unless it is empty
abbrev pub one_line : List ℕ → List (List ℕ)
one_line l = cond (nat_lt 0 (length l)) (l ∷ []) []

-- the lines of parts, of which the last one is behind the last LF
abbrev pub lines_of_parts : List (List ℕ) → List (List ℕ)
lines_of_parts parts = map without_return (but_last parts) ++ one_line (last_part parts)

-- The lines of a text: each ends by LF or CRLF, the last one also where the text ends.
abbrev pub lines_of : List ℕ → List (List ℕ)
lines_of text = lines_of_parts (slice_split (nat_eq 10) text)

-- an empty line, or one that begins with `#`
abbrev pub is_skipped : List ℕ → Bool
is_skipped [] = true
is_skipped (c ∷ cs) = nat_eq c 35

-- what stands before the descriptions of a section, in any case
abbrev pub heading_of : Section → List ℕ
heading_of AttributeTypes = codes "attributeTypes: "
heading_of ObjectClasses = codes "objectClasses: "

-- whether a line begins with the heading of a section, in any case
abbrev pub is_headed : Section → List ℕ → Bool
is_headed s line = is_same_word (heading_of s) (take (length (heading_of s)) line)

-- what a text has: the descriptions of types and of classes in the order written, the first line that is no
-- description, and the number behind the last line
pub record SchemaTextModel : Type 0 where
  pub types : List DescriptionModel
  pub classes : List DescriptionModel
  pub bad : Option ℕ
  pub behind : ℕ

-- the line that is bad already, or else this one
abbrev pub or_else : Option ℕ → ℕ → Option ℕ
or_else None n = Some n
or_else (Some m) n = Some m

-- after a line that is no description: the first such line is kept
abbrev pub with_bad : SchemaTextModel → ℕ → SchemaTextModel
with_bad t n = record { types = t.types; classes = t.classes; bad = or_else t.bad n; behind = t.behind }

-- after a line with this type; a line without one is bad
abbrev pub with_type : SchemaTextModel → ℕ → Option DescriptionModel → SchemaTextModel
with_type t n None = with_bad t n
with_type t n (Some d) = record { types = t.types ++ d ∷ []; classes = t.classes; bad = t.bad; behind = t.behind }

-- after a line with this class; a line without one is bad
abbrev pub with_class : SchemaTextModel → ℕ → Option DescriptionModel → SchemaTextModel
with_class t n None = with_bad t n
with_class t n (Some d) = record { types = t.types; classes = t.classes ++ d ∷ []; bad = t.bad; behind = t.behind }

-- the description behind a line's heading
abbrev pub description_behind : ℕ → Section → List ℕ → Option DescriptionModel
description_behind n s line = description_of n s (drop (length (heading_of s)) line)

-- a line of this number after those before it
abbrev pub with_line : SchemaTextModel → ℕ → List ℕ → SchemaTextModel
with_line t n line =
    cond (is_skipped line) t
    (cond (is_headed AttributeTypes line) (with_type t n (description_behind n AttributeTypes line))
    (cond (is_headed ObjectClasses line) (with_class t n (description_behind n ObjectClasses line)) (with_bad t n)))

-- the lines so far, the next of which has this number, and the lines that follow
abbrev pub read_from : SchemaTextModel → ℕ → List (List ℕ) → SchemaTextModel
read_from t n [] = t
read_from t n (l ∷ ls) = read_from (with_line t n l) (n + 1) ls

-- what a schema's text has before its first line
abbrev pub nothing : SchemaTextModel
nothing = record { types = []; classes = []; bad = None; behind = 1 }

-- after the last line, with the number that follows it
abbrev pub ended_at : SchemaTextModel → ℕ → SchemaTextModel
ended_at t n = record { types = t.types; classes = t.classes; bad = t.bad; behind = n }

-- what the lines of a schema's text have
abbrev pub read_lines : List (List ℕ) → SchemaTextModel
read_lines ls = ended_at (read_from nothing 1 ls) (length ls + 1)

-- What a schema's text has.
abbrev pub read_text : List ℕ → SchemaTextModel
read_text text = read_lines (lines_of text)
