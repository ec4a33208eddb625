-- Those who wait for the outcomes of updates wait in groups. What was executed comes in; whose turn it is to look again
-- comes out.
use Rattle.std.specs.Prelude.{ℕ, Bool, true, List, [], ◌∷◌, ◌+◌, ◌%◌, slice_set}
use Rattle.dir_node.specs.dir_store.ldap_op.Values.{OpValue}
use Rattle.dir_node.specs.vr_state.Words.{Client, LogEntry}

-- the group of those who wait for a client's update of this number
abbrev pub group_of : Client → ℕ → ℕ
group_of client number = (client.number % 16 + number % 16) % 16

-- the groups that look again, with those of these updates besides
abbrev pub called : List Bool → List (LogEntry OpValue) → List Bool
called groups [] = groups
called groups (u ∷ updates) = called (slice_set groups (group_of u.client u.request_number) true) updates
