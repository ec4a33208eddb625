-- A description whose SUP leads back to it (RFC 4512 4.1): descriptions come in, the way there goes out.
use Rattle.std.specs.Prelude.{◌≡◌, ◌++◌, ◌&&◌, ◌⊎◌, ℕ, List, [], ◌∷◌, Bool, true, false, nat_eq, nat_lt, cond, codes, length, slice_get, take, Option, None, Some}
use Rattle.std.specs.Option.{option_and_then}
use Rattle.std.specs.List.{list_any}
use Rattle.schema_meaning.specs.Naming.{superior_of, superior_texts, find}
use Rattle.schema_meaning.specs.schema_text.Descriptions.{DescriptionModel}
use Rattle.schema_faults.specs.Schemas.{title}

-- a way that goes on
abbrev pub going_on : List ℕ → List ℕ
going_on [] = []
going_on (octet ∷ way) = (octet ∷ way) ++ codes " to "

-- a description in quotes, behind those of the way so far
abbrev pub with_title : List ℕ → List ℕ → List ℕ
with_title way title = going_on way ++ codes "'" ++ title ++ codes "'"

-- one more description in quotes behind the way so far, where there is one
abbrev pub with_described : List ℕ → Option DescriptionModel → List ℕ
with_described way None = way
with_described way (Some d) = with_title way (title d)

-- the way so far, and on along descriptions of these numbers
abbrev pub along : List DescriptionModel → List ℕ → List ℕ → List ℕ
along ds way [] = way
along ds way (n ∷ ns) = along ds (with_described way (slice_get ds n)) ns

-- the way along descriptions of these numbers: eight of them are shown
abbrev pub way_shown : List DescriptionModel → List ℕ → List ℕ
way_shown ds numbers = cond (nat_lt 8 (length numbers)) (along ds [] (take 8 numbers) ++ codes " to ..")
    (along ds [] (take 8 numbers))

-- a sentence of such a way
abbrev pub way_sentence : List DescriptionModel → List ℕ → List ℕ
way_sentence ds numbers = codes "SUP leads back: from " ++ way_shown ds numbers

-- the type that the SUP of a type names
abbrev pub type_above : List DescriptionModel → ℕ → Option ℕ
type_above types t = option_and_then (superior_of types) (slice_get types t)

-- a way ends where it began, or where SUP leads to no type
abbrev pub type_onward : ℕ → Option ℕ → (ℕ → List ℕ) → List ℕ
type_onward start None rest = []
type_onward start (Some u) rest = cond (nat_eq u start) (start ∷ []) (rest u)

-- the numbers of the types that SUP leads to from one on, itself first, back to the start; a step for each of these
-- types at most
abbrev pub types_from : List DescriptionModel → ℕ → ℕ → List DescriptionModel → List ℕ
types_from types start t [] = []
types_from types start t (x ∷ xs) = t ∷ type_onward start (type_above types t) (λ u. types_from types start u xs)

-- the sentence of a type
abbrev pub type_loop : List DescriptionModel → ℕ → List ℕ
type_loop types t = way_sentence types (types_from types t t types)

-- whether there is a number, and it is this one
abbrev pub is_it : ℕ → Option ℕ → Bool
is_it u None = false
is_it u (Some v) = nat_eq u v

-- a word calls the class of a number
abbrev pub is_calling : List DescriptionModel → ℕ → List ℕ → Bool
is_calling classes u word = is_it u (find classes word)

-- whether the SUP of a description names the class of a number
abbrev pub has_right_above : List DescriptionModel → Option DescriptionModel → ℕ → Bool
has_right_above classes None u = false
has_right_above classes (Some d) u = list_any (is_calling classes u) (superior_texts d)

-- the SUP of a class names another
abbrev pub is_right_above : List DescriptionModel → ℕ → ℕ → Bool
is_right_above classes c u = has_right_above classes (slice_get classes c) u

-- SUP leads from a class to the first of these, and from each to the next
abbrev pub leads_along : List DescriptionModel → ℕ → List ℕ → Bool
leads_along classes c [] = true
leads_along classes c (u ∷ us) = is_right_above classes c u && leads_along classes u us

-- SUP leads from a class along these and back to it
abbrev pub leads_back : List DescriptionModel → ℕ → List ℕ → Bool
leads_back classes c between = leads_along classes c (between ++ c ∷ [])

-- a sentence of a way of SUP from a class back to it
abbrev pub IsWayOf : List DescriptionModel → ℕ → List ℕ → Type 0
IsWayOf classes c sentence =
    (between : List ℕ) × (leads_back classes c between ≡ true)
    × (sentence ≡ way_sentence classes (c ∷ between ++ c ∷ []))

-- What is told of a class: a way of SUP from it back to it; and no way, where there is none.
abbrev pub IsClassLoop : List DescriptionModel → ℕ → List ℕ → Type 0
IsClassLoop classes c sentence =
    IsWayOf classes c sentence ⊎ (((between : List ℕ) → leads_back classes c between ≡ false)
    × (sentence ≡ way_sentence classes []))
