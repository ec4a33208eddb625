-- What becomes of the value at a key.
use Rattle.std.specs.Prelude.{List, Option}
use Rattle.std.specs.declared.cmp.Ordering.{Ordering}
use Rattle.std.specs.Map.{lookup}
use Rattle.std.specs.BTreeMap.{is_at, insert_entry}

-- the entries with another value at k: what f makes of the value there, or of none
abbrev pub altered_at : {K X : Type 0} → (K → K → Ordering) → (Option X → X) → List (K × X) → K → List (K × X)
altered_at cmp f es k = insert_entry cmp es k (f (lookup (is_at (cmp k)) es))
