-- Lab scripts: whole scripts.
use Rattle.std.specs.Prelude.{◌≡◌, ◌⊎◌, ℕ, ◌+◌, List, [], ◌∷◌, ◌++◌, map, Vec, Option, Some, None}
use Rattle.lab_script.specs.Events.{EventValue}
use Rattle.lab_script.specs.Lines.{first_line, IsLine}

-- these events are those of a line, and then others
pub record AreThen (Is Then : List EventValue → Type 0) (es : List EventValue) : Type 0 where
  pub front : List EventValue
  pub behind : List EventValue
  pub is : Is front
  pub are : Then behind
  pub joined : es ≡ front ++ behind

-- The events that these lines name, one line after another.
abbrev pub AreEvents : List (List ℕ) → List EventValue → Type 0
AreEvents [] es = es ≡ []
AreEvents (line ∷ lines) es = AreThen (IsLine line) (AreEvents lines) es

-- The schedule of a script: the first line names how many replicas play it, the others name its events.
abbrev pub IsSchedule : List (List ℕ) → ℕ → List EventValue → Type 0
IsSchedule [] count es = ⊥
IsSchedule (line ∷ lines) count es = (first_line line ≡ Some count) × AreEvents lines es

-- a line that is in the language
pub record IsInLanguage (line : List ℕ) : Type 0 where
  pub events : List EventValue
  pub names : IsLine line events

-- the first of these lines that isn't in the language has this number, the first of them having number p
abbrev pub IsFirstBad : ℕ → List (List ℕ) → ℕ → Type 0
IsFirstBad p [] n = ⊥
IsFirstBad p (line ∷ lines) n = ((n ≡ p) × ((es : List EventValue) → IsLine line es → ⊥))
    ⊎ (IsInLanguage line × IsFirstBad (p + 1) lines n)

-- a first line that names how many replicas there are
pub record IsFirst (line : List ℕ) : Type 0 where
  pub count : ℕ
  pub names : first_line line ≡ Some count

-- The number of a script's first line that isn't in the language; 1 where there is no line.
abbrev pub IsBadLine : List (List ℕ) → ℕ → Type 0
IsBadLine [] n = n ≡ 1
IsBadLine (line ∷ lines) n = ((first_line line ≡ None) × (n ≡ 1)) ⊎ (IsFirst line × IsFirstBad 2 lines n)

-- The octets of lines that are kept in vectors.
abbrev pub lines_in : {A : Type 0} → List (Vec ℕ A) → List (List ℕ)
lines_in {A} lines = map {A = Vec ℕ A} {B = List ℕ} (λ line. line.items) lines
