-- Ranks of classes that never rise on a way up.
use Rattle.std.specs.Prelude.{ℕ, List, ◌≡◌, ◌<◌, ◌≤◌, true}
use Rattle.ldap_schema.specs.Schema.{ClassModel}
use Rattle.ldap_schema.specs.Superclasses.{is_among, direct_superclasses}
use Rattle.ldap_schema.specs.Lines.{rank_in}

-- no class has a lesser rank than one of its direct superclasses
abbrev pub IsFalling : List ClassModel → List ℕ → Type 0
IsFalling classes ranks = (c u : ℕ) → is_among (direct_superclasses classes c) u ≡ true → rank_in ranks u ≤ rank_in
    ranks c

-- of the classes below a number none has a lesser rank than one of its direct superclasses
abbrev pub IsFallingBelow : List ClassModel → List ℕ → ℕ → Type 0
IsFallingBelow classes ranks n = (c u : ℕ) → c < n → is_among (direct_superclasses classes c) u ≡ true →
    rank_in ranks u ≤ rank_in ranks c
