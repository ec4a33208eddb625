-- How far a text is one.
use Rattle.std.specs.Prelude.{◌<◌, ◌≤◌, ℕ, List, ◌++◌, length, take}
use Rattle.ldap_filter.specs.Tree.{Tree}
use Rattle.filter_text.specs.Grammar.{IsFilterText}

-- The first octets, so many, begin some filter text.
abbrev pub Begins : List ℕ → ℕ → Type 0
Begins text n = (t : Tree) × (rest : List ℕ) × IsFilterText t (take n text ++ rest)

-- The longest front of a text that begins some filter text has this length.
pub record IsLongestFront (text : List ℕ) (at : ℕ) : Type 0 where
  pub within : at ≤ length text
  pub begins : Begins text at
  pub longest : (n : ℕ) → at < n → n ≤ length text → Begins text n → ⊥
