-- What comes after a key, and first parts of it: what contracts that aren't public say of it.
-- What public contracts say is in specs/Runs.
use Rattle.std.specs.Prelude.{◌≡◌, List, ◌++◌}
use Rattle.std.specs.declared.cmp.Ordering.{Ordering}
use Rattle.shared_map.specs.Entries.{Rises}
use Rattle.shared_map.specs.Runs.{IsBeginning, onward}

-- what a walk keeps
pub record IsUnderWay {K X : Type 0} (cmp : K → K → Ordering) (es run : List (K × X)) : Type 0 where
  pub rising : Rises cmp es
  pub begins : IsBeginning run (onward cmp es run)

-- xs is a part of ys without gaps
pub record IsPart {A : Type 0} (xs ys : List A) : Type 0 where
  pub before : List A
  pub after : List A
  pub is : ys ≡ before ++ (xs ++ after)

-- what a cursor keeps
pub record IsAt {K X : Type 0} (cmp : K → K → Ordering) (es run : List (K × X)) : Type 0 where
  pub rising : Rises cmp es
  pub part : IsPart run es
