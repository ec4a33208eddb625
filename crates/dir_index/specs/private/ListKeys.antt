-- What posting lists are kept by, and its order: what contracts that aren't public say of it.
-- What public contracts say is in specs/ListKeys.
use Rattle.std.specs.Prelude.{ℕ, List, [], Bool, ◌&&◌, Option, None, Some, nat_eq}
use Rattle.dir_index.specs.declared.posting.Range.{Range}
use Rattle.dir_index.specs.declared.list_key.ListKey.{ListKey}
use Rattle.dir_index.specs.Postings.{in_range}

-- whether a list is one of a value's key in a range
abbrev pub is_list_in : Range → ListKey → Bool
is_list_in r k = nat_eq k.type_id r.type_id && (nat_eq k.rank 2 && in_range r k.octets)

-- the key at an end of a range; no octets, the least key, where the range has no such end
abbrev pub or_nothing : Option (List ℕ) → List ℕ
or_nothing None = []
or_nothing (Some k) = k

-- the least key that a list of the range may have
abbrev pub range_start : Range → ListKey
range_start r = record { type_id = r.type_id; rank = 2; octets = or_nothing r.from }
