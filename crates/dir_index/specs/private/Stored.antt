-- What is kept of posting lists, without its memory: what contracts that aren't public say of it.
-- What public contracts say is in specs/Stored.
use Rattle.std.specs.Prelude.{ℕ, Bool, ◌&&◌}
use Rattle.std.specs.List.{list_any}
use Rattle.dir_index.specs.declared.list_key.ListKey.{ListKey}
use Rattle.dir_index.specs.declared.posting.Posting.{Posting}
use Rattle.dir_index.specs.declared.posting.Range.{Range}
use Rattle.dir_index.specs.Postings.{has_number, IsRising}
use Rattle.dir_index.specs.ListKeys.{key_of}
use Rattle.dir_index.specs.private.ListKeys.{is_list_in}
use Rattle.dir_index.specs.Stored.{ListRows, list_at}

-- whether a number is in the list of a key
abbrev pub is_in : ListRows → ListKey → ℕ → Bool
is_in ls k n = has_number n (list_at ls k)

-- the list of each posting rises
abbrev pub AllRise : ListRows → Type 0
AllRise ls = (p : Posting) → IsRising (list_at ls (key_of p))

-- whether a number is in a list of a range
abbrev pub has_in_lists : Range → ℕ → ListRows → Bool
has_in_lists r n ls = list_any (λ l. is_list_in r l.0 && has_number n l.1) ls
