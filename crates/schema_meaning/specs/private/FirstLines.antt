-- The first lines in which names and object identifiers stand, found by octets.
use Rattle.std.specs.Prelude.{ℕ, List, [], ◌∷◌, ◌≡◌, Bool, false, cond, Option, None, Some, Vec, nat_lt}
use Rattle.std.specs.Str.{bytes_eq}
use Rattle.std.specs.declared.alloc.Global.{Global}
use Rattle.schema_text.specs.Descriptions.{DescriptionModel}
use Rattle.schema_text.specs.Texts.{SchemaTextModel}
use Rattle.schema_meaning.specs.private.Octets.{number_at, has_folded}
use Rattle.schema_meaning.specs.Naming.{names_of}
use Rattle.schema_meaning.specs.Faults.{earlier_of}

-- this line where it is one of those, unless an earlier one is there
abbrev pub noted : Bool → ℕ → Option ℕ → Option ℕ
noted is line o = cond is (earlier_of line o) o

-- the first line of those that a test finds, and of the one that is there
abbrev pub first_line : (DescriptionModel → Bool) → List DescriptionModel → Option ℕ → Option ℕ
first_line p [] o = o
first_line p (d ∷ ds) o = first_line p ds (noted (p d) d.line o)

-- the first line of a type or a class that a test finds
abbrev pub line_in : SchemaTextModel → (DescriptionModel → Bool) → Option ℕ
line_in s p = first_line p s.classes (first_line p s.types None)

-- there is a line, and it is before this one
abbrev pub is_less : Option ℕ → ℕ → Bool
is_less None line = false
is_less (Some n) line = nat_lt n line

-- the first lines of names and of object identifiers of a text
abbrev pub AreFirst : SchemaTextModel → List (Vec ℕ Global × ℕ) → List (Vec ℕ Global × ℕ) → Type 0
AreFirst s names oids =
    ((q : List ℕ) → number_at names q ≡ line_in s (λ d. has_folded q (names_of d)))
    × ((q : List ℕ) → number_at oids q ≡ line_in s (λ d. bytes_eq q d.oid))
