use Rattle.std.proofs.Common.{◌≡◌, ℕ, ◌+◌, ◌<◌, min, Option, Some, Bor, slice_get}
use Rattle.std.specs.Prelude.{option_copied}
use Rattle.std.specs.Ordering.{nat_cmp}
use Rattle.std.specs.Map.{lookup}
use Rattle.std.specs.BTreeMap.{is_at}
use Rattle.dir_tree.specs.declared.place.Standing.{Standing}
use Rattle.dir_tree.proofs.visit.row_from.Given as goal

abbrev pub invariant-loop-i : goal.invariant-loop-i
invariant-loop-i l = (l.entries ≡ l.initial.entries)
    × ((j : ℕ) (o : Option (Bor Standing)) → slice_get l.found j ≡ Some o → j < l.i
    → option_copied o ≡ lookup (is_at (nat_cmp (min (l.number + j) 18446744073709551615))) l.initial.entries)
