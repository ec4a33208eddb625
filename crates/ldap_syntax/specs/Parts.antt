-- Parts of a text: RFC 4517 4.2.6 and its kin.
use Rattle.std.specs.Prelude.{ℕ, List, [], ◌∷◌, ◌++◌, Option, ◌≡◌}
use Rattle.ldap_syntax.specs.Meaning.{Meaning, text}
pub use Rattle.ldap_words.specs.Words.{part_or_nothing}

-- a part stands in the text, and what follows it is as it has to be
pub record Stands (part : List ℕ) (Rest : List ℕ → Type 0) (whole : List ℕ) : Type 0 where
  pub before : List ℕ
  pub after : List ℕ
  pub place : whole ≡ before ++ part ++ after
  pub then : Rest after

-- the parts stand in the text in order, without overlap
abbrev pub StandInOrder : List (List ℕ) → List ℕ → Type 0
StandInOrder [] whole = Unit {0}
StandInOrder (p ∷ ps) whole = Stands p (StandInOrder ps) whole

-- The initial part stands at the start, the final part at the end, and the others between them in order, none over
-- another.
pub record HasParts (initial : Option (List ℕ)) (any : List (List ℕ)) (final : Option (List ℕ)) (whole : List ℕ) :
    Type 0 where
  pub middle : List ℕ
  pub ends : whole ≡ part_or_nothing initial ++ middle ++ part_or_nothing final
  pub between : StandInOrder any middle

-- a value's meaning has these prepared parts (RFC 4517 4.2.6, 4.2.8, 4.2.13, 4.2.24, 4.2.30)
abbrev pub MeaningHasParts : Option (List ℕ) → List (List ℕ) → Option (List ℕ) → Meaning → Type 0
MeaningHasParts initial any final (text t) = HasParts initial any final t
MeaningHasParts initial any final m = ⊥
