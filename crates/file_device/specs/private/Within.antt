-- Whether what was written to a file was within what there was: what contracts that aren't public say of it.
use Rattle.std.specs.Prelude.{ℕ, ◌+◌, Bool, true, ◌&&◌, not, nat_lt, List, [], ◌∷◌, length}
use Rattle.journal.specs.Memory.{Event, nothing, write, grow, settle, seen_after}
use Rattle.view_store.specs.Memory.{Event as ViewEvent, nothing as view_nothing, write as view_write, settle as view_settle, seen_after as view_seen}

-- whether each write to a journal was within what there was
abbrev pub are_within : List ℕ → List Event → Bool
are_within base [] = true
are_within base (nothing ∷ older) = are_within base older
are_within base (write at octets is_done ∷ older) =
    not (nat_lt (length (seen_after base older)) (at + length octets)) && are_within base older
are_within base (grow octets is_done ∷ older) = are_within base older
are_within base (settle ∷ older) = are_within base older

-- whether each write to a stored view began within what there was, or right behind it
abbrev pub begin_within : List ℕ → List ViewEvent → Bool
begin_within base [] = true
begin_within base (view_nothing ∷ older) = begin_within base older
begin_within base (view_write at octets is_done ∷ older) =
    not (nat_lt (length (view_seen base older)) at) && begin_within base older
begin_within base (view_settle ∷ older) = begin_within base older
