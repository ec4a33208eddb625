-- What the words of descriptions stand for among the descriptions of a text: RFC 4512 1.4 and 4.1.
use Rattle.std.specs.Prelude.{ℕ, List, [], ◌∷◌, Bool, false, ◌||◌, ◌&&◌, Option, None, Some, nat_lt}
use Rattle.std.specs.List.{list_any, position_from}
use Rattle.std.specs.Str.{bytes_eq}
use Rattle.schema_text.specs.Words.{is_same_word}
use Rattle.schema_text.specs.Descriptions.{DescriptionModel, texts_at, first_text_at}

-- the places of fields in the grammar's order: NAME 1, SUP 4, EQUALITY 5, ORDERING 6, SUBSTR 7, SYNTAX 8, MUST 12, MAY
-- 13
abbrev pub names_of : DescriptionModel → List (List ℕ)
names_of d = texts_at 1 d.fields

-- the word of a type's SUP (RFC 4512 4.1.2)
abbrev pub superior_text : DescriptionModel → Option (List ℕ)
superior_text d = first_text_at 4 d.fields

-- the words of a class's SUP (RFC 4512 4.1.1)
abbrev pub superior_texts : DescriptionModel → List (List ℕ)
superior_texts d = texts_at 4 d.fields

-- a word is one of the names, in any case
abbrev pub is_name_among : List (List ℕ) → List ℕ → Bool
is_name_among names w = list_any (is_same_word w) names

-- a word calls a description: by a name in any case, or by its object identifier (RFC 4512 1.4, oid)
abbrev pub calls : List ℕ → DescriptionModel → Bool
calls w d = bytes_eq w d.oid || is_name_among (names_of d) w

-- the number of the description that a word calls
abbrev pub find : List DescriptionModel → List ℕ → Option ℕ
find ds w = position_from (calls w) 0 ds

-- the number of the description that a word calls, where there is a word
abbrev pub found_by : List DescriptionModel → Option (List ℕ) → Option ℕ
found_by ds None = None
found_by ds (Some w) = find ds w

-- the number of the type that the SUP of a type names
abbrev pub superior_of : List DescriptionModel → DescriptionModel → Option ℕ
superior_of types d = found_by types (superior_text d)

-- whether a name is there twice, in any case
abbrev pub has_twice : List (List ℕ) → Bool
has_twice [] = false
has_twice (n ∷ ns) = is_name_among ns n || has_twice ns

-- whether descriptions with these names have one in common, in any case
abbrev pub share_a_name : List (List ℕ) → List (List ℕ) → Bool
share_a_name [] ms = false
share_a_name (n ∷ ns) ms = is_name_among ms n || share_a_name ns ms

-- an earlier description has the object identifier or a name of a description
abbrev pub is_before : DescriptionModel → DescriptionModel → Bool
is_before d e = nat_lt e.line d.line && (bytes_eq d.oid e.oid || share_a_name (names_of d) (names_of e))

-- a description has a name twice, or an object identifier or a name that an earlier one has, of a type or of a class
abbrev pub is_repeated : List DescriptionModel → List DescriptionModel → DescriptionModel → Bool
is_repeated types classes d = has_twice (names_of d) || list_any (is_before d) types || list_any (is_before d) classes
