-- Lines while they are unfolded.
use Rattle.std.specs.Prelude.{◌≡◌, List, [], ◌∷◌}
use Rattle.ldif.specs.Lines.{LineModel, before}

-- lines so far, and lines that follow, of which the first one may continue the last one
abbrev pub resumed : List LineModel → List LineModel → List LineModel
resumed [] rest = rest
resumed (a ∷ []) rest = before a rest
resumed (a ∷ b ∷ bs) rest = a ∷ resumed (b ∷ bs) rest

-- the new lines are the old ones with one more part, whatever follows
pub record Puts (old : List LineModel) (part : LineModel) (new : List LineModel) : Type 0 where
  pub whatever_follows : (rest : List LineModel) → resumed new rest ≡ resumed old (before part rest)
