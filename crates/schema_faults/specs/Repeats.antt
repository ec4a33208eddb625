-- What a description of a schema has that a description before it has, or has twice (RFC 4512 1.4, 4.1): descriptions
-- come in, a sentence goes out.
use Rattle.std.specs.Prelude.{◌++◌, ℕ, ◌+◌, List, [], ◌∷◌, nat_eq, nat_lt, cond, codes, decimal, map, slice_get, option_map, Option, None, Some}
use Rattle.std.specs.Option.{option_and_then, option_or}
use Rattle.std.specs.Char.{to_ascii_lowercase}
use Rattle.schema_meaning.specs.Naming.{names_of, find, is_name_among}
use Rattle.schema_meaning.specs.schema_text.Descriptions.{DescriptionModel}
use Rattle.schema_meaning.specs.schema_text.Texts.{SchemaTextModel}
use Rattle.text_faults.specs.Words.{word_shown}

-- the description of a line among these, the first of which has this number; with its number
abbrev pub in_line_from : ℕ → List DescriptionModel → ℕ → Option (ℕ × DescriptionModel)
in_line_from number [] line = None
in_line_from number (d ∷ ds) line = cond (nat_eq d.line line) (Some (number, d)) (in_line_from (number + 1) ds line)

-- the description of a line among all of a kind, with its number
abbrev pub in_line : List DescriptionModel → ℕ → Option (ℕ × DescriptionModel)
in_line ds line = in_line_from 0 ds line

-- the line of a description, where it comes before this one
abbrev pub line_if_before : ℕ → Option DescriptionModel → Option ℕ
line_if_before line None = None
line_if_before line (Some d) = cond (nat_lt d.line line) (Some d.line) None

-- the line of the description that a word calls among these, where it comes before this one
abbrev pub line_before : List DescriptionModel → List ℕ → ℕ → Option ℕ
line_before ds word line = line_if_before line (option_and_then (slice_get ds) (find ds word))

-- the same among types, or else among classes
abbrev pub earlier_line : SchemaTextModel → List ℕ → ℕ → Option ℕ
earlier_line s word line = option_or (line_before s.types word line) (line_before s.classes word line)

-- an object identifier that a line before has, and a name that one has
abbrev pub oid_of_line : List ℕ → ℕ → List ℕ
oid_of_line oid line = codes "the object identifier " ++ word_shown oid ++ codes " is that of line " ++ decimal
    line ++ codes " too"

-- a name that an earlier line has too
abbrev pub name_of_line : List ℕ → ℕ → List ℕ
name_of_line name line = codes "the name '" ++ word_shown name ++ codes "' is that of line " ++ decimal line ++ codes
    " too"

-- the first of names that a description has which comes before this line
abbrev pub earlier_name : SchemaTextModel → ℕ → List (List ℕ) → Option (List ℕ)
earlier_name s line [] = None
earlier_name s line (name ∷ names) = option_or (option_map (name_of_line name) (earlier_line s name line))
    (earlier_name s line names)

-- the first of names that is one of those before it, in any case
abbrev pub again : List (List ℕ) → List (List ℕ) → Option (List ℕ)
again before [] = None
again before (name ∷ names) = cond (is_name_among before name) (Some name) (again (before ++ name ∷ []) names)

-- such a name, in lower case
abbrev pub given_twice : List ℕ → List ℕ
given_twice name = codes "the name '" ++ word_shown (map to_ascii_lowercase name) ++ codes "' is given twice"

-- what a description has that one before it has, or that it has twice: its object identifier comes first
abbrev pub repeated : SchemaTextModel → DescriptionModel → Option (List ℕ)
repeated s d =
    option_or (option_map (oid_of_line d.oid) (earlier_line s d.oid d.line))
    (option_or (earlier_name s d.line (names_of d)) (option_map given_twice (again [] (names_of d))))
