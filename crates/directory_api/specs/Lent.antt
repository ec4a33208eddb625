-- What an attribute that is lent stands for.
use Rattle.std.specs.Prelude.{ℕ, List, [], Option, None, Some}
use Rattle.std.specs.Borrow.{Bor}
use Rattle.dir_tree.specs.dir_entry.Entry.{KeyedAttribute}

-- the values that are shown: those of an attribute, or none
abbrev pub lent_values : Option (Bor KeyedAttribute) → List (List ℕ)
lent_values None = []
lent_values (Some a) = a.now.values
