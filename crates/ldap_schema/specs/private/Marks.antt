-- The numbers of classes as a set.
use Rattle.std.specs.Prelude.{ℕ, List, ◌≡◌}
use Rattle.std.specs.Ordering.{nat_cmp}
use Rattle.std.specs.BTreeSet.{BTreeSet, contains}
use Rattle.ldap_schema.specs.Superclasses.{is_among}

-- the set has the classes that are among these
abbrev pub AreNumbersOf : List ℕ → BTreeSet ℕ → Type 0
AreNumbersOf cs numbers = (c : ℕ) → contains nat_cmp numbers c ≡ is_among cs c
