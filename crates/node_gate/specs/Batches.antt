-- What the steps of a batch of events send, and how many of the events were left out.
use Rattle.std.specs.Prelude.{ℕ, ◌+◌, List, [], ◌∷◌, ◌++◌, Option, Some, None, slice_get, Result, Ok, Err}
use Rattle.std.specs.declared.alloc.AllocError.{AllocError}
use Rattle.dir_node.specs.dir_store.ldap_op.Values.{OpValue}
use Rattle.dir_node.specs.vr_state.declared.message.Outputs.{Outputs}
use Rattle.dir_node.specs.vr_state.declared.message.Send.{Send}

-- what a step sends; one that was left out sends nothing
abbrev pub sends_in : Result (Outputs OpValue) AllocError → List (Send OpValue)
sends_in (Ok outputs) = outputs.sends.items
sends_in (Err e) = []

-- what these steps send, in their order
abbrev pub sends_of : List (Result (Outputs OpValue) AllocError) → List (Send OpValue)
sends_of [] = []
sends_of (given ∷ rest) = sends_in given ++ sends_of rest

-- whether an event was left out for want of memory, as 0 or 1
abbrev pub left_out_in : Result (Outputs OpValue) AllocError → ℕ
left_out_in (Ok outputs) = 0
left_out_in (Err e) = 1

-- how many events were left out
abbrev pub left_out : List (Result (Outputs OpValue) AllocError) → ℕ
left_out [] = 0
left_out (given ∷ rest) = left_out_in given + left_out rest

-- what a step sends, if there is one and it was made
abbrev pub sends_if : Option (Result (Outputs OpValue) AllocError) → Option (List (Send OpValue))
sends_if None = None
sends_if (Some (Ok outputs)) = Some outputs.sends.items
sends_if (Some (Err e)) = None

-- what the step at a place sends, if a place is named
abbrev pub sends_at : Option ℕ → List (Result (Outputs OpValue) AllocError) → Option (List (Send OpValue))
sends_at None given = None
sends_at (Some place) given = sends_if (slice_get given place)
