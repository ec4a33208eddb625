-- The lines of a text as a grammar.
use Rattle.std.specs.Prelude.{ℕ, List, [], ◌∷◌, ◌++◌, All, false, nat_eq, ◌≡◌, ◌↔◌}
use Rattle.schema_text.specs.Texts.{without_return, lines_of}

-- no octet is LF
abbrev pub LacksFeed : List ℕ → Type 0
LacksFeed l = All (λ c. nat_eq 10 c ≡ false) l

-- a text's lines: each ends by LF, and less one CR before it; what stands behind the last LF is a line too, unless it
-- is empty
pub data AreLines : List ℕ → List (List ℕ) → Type 0 where
  no_line : AreLines [] []
  last_line : (c : ℕ) (cs : List ℕ) → LacksFeed (c ∷ cs) → AreLines (c ∷ cs) ((c ∷ cs) ∷ [])
  a_line : {rest : List ℕ} {ls : List (List ℕ)} (l : List ℕ) → LacksFeed l → AreLines rest ls →
      AreLines (l ++ 10 ∷ rest) (without_return l ∷ ls)

-- The lines that are found are those of the grammar, and no others.
abbrev pub LinesAreOfText : Type 0
LinesAreOfText = (text : List ℕ) (ls : List (List ℕ)) → (lines_of text ≡ ls) ↔ AreLines text ls
