-- What the values of an attribute are compared by.
use Rattle.std.specs.Prelude.{ℕ, List, Bool, cond}
use Rattle.dir_entry.specs.Entry.{KeyedAttribute}

-- what values are compared by: their keys or their octets
abbrev pub octets_by : Bool → KeyedAttribute → List (List ℕ)
octets_by by_keys a = cond by_keys a.keys a.values
