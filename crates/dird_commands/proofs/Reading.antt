-- The lines of an input, as they are read one after the other.
use Rattle.std.proofs.Common.{◌≡◌, ℕ, List, [], ◌∷◌, ◌++◌, false, Option, None, Some, IfSome, refl, sym, subst, append_assoc, append-nil}
use Rattle.local_directory.specs.Lines.{is_empty, first_line, after_line, IsNextLine}
use Rattle.dird_commands.specs.private.Played.{AreLines}

-- Of an input these lines were read, and this is left: its lines, whichever they are, come behind them.
abbrev pub AreRead : Option (List ℕ) → Option (List ℕ) → List (List ℕ) → Type 0
AreRead None now lines = Unit {0}
AreRead (Some xs) now lines = (left : List ℕ) × (now ≡ Some left) × ((rest : List (List ℕ)) → AreLines left rest →
    AreLines xs (lines ++ rest))

pub none_read : (input : Option (List ℕ)) → AreRead input input []
none_read None = tt
none_read (Some xs) = (xs, refl, λ rest h. h)

one_more : (xs left : List ℕ) (next : Option (List ℕ)) (lines : List (List ℕ)) (line : List ℕ) →
    ((rest : List (List ℕ)) → AreLines left rest → AreLines xs (lines ++ rest)) →
    IsNextLine left (Some line) next → AreRead (Some xs) next (lines ++ line ∷ [])
one_more xs left next lines line f (some, is, after) = (
  after_line left,
  after,
  λ rest h. subst (λ (ls : List (List ℕ)). AreLines xs ls) (sym
      (append_assoc lines (line ∷ []) rest)) (f (line ∷ rest) (some, is, h)),
)

pub line_read : (input now next : Option (List ℕ)) (lines : List (List ℕ)) (line : List ℕ) → AreRead input now lines →
    IfSome now (λ xs. IsNextLine xs (Some line) next) → AreRead input next (lines ++ line ∷ [])
line_read None now next lines line h p = tt
line_read (Some xs) now next lines line (left, e, f) p =
    one_more xs left next lines line f
    (subst (λ (o : Option (List ℕ)). IfSome o (λ ys. IsNextLine ys (Some line) next)) e p)

last : (xs left : List ℕ) (next : Option (List ℕ)) (lines : List (List ℕ)) →
    ((rest : List (List ℕ)) → AreLines left rest → AreLines xs (lines ++ rest)) →
    IsNextLine left None next → AreLines xs lines
last xs left next lines f (empty, after) = subst (λ (ls : List (List ℕ)). AreLines xs ls) (append-nil lines)
    (f [] empty)

pub all_read : (input now next : Option (List ℕ)) (lines : List (List ℕ)) → AreRead input now lines →
    IfSome now (λ xs. IsNextLine xs None next) → IfSome input (λ xs. AreLines xs lines)
all_read None now next lines h p = tt
all_read (Some xs) now next lines (left, e, f) p =
    last xs left next lines f (subst (λ (o : Option (List ℕ)). IfSome o (λ ys. IsNextLine ys None next)) e p)
