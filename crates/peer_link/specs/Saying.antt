-- What messages say of their sender: a view that it is in, and how far its log goes. Its files hold both before a
-- message is sent.
use Rattle.std.specs.Prelude.{ℕ, ◌+◌, ◌-◌, ◌^◌, min, length, Option, Some, None}
use Rattle.vr_state.specs.declared.message.PeerMessage.{PeerMessage}
use Rattle.vr_state.specs.declared.message.PeerMessage.TheVariants.{Prepare, PrepareOk, Commit, StartViewChange, DoViewChange, StartView, GetState, NewState, Recovery, RecoveryResponse}
use Rattle.vr_state.specs.declared.message.Snapshot.{Snapshot}
use Rattle.peer_link.specs.declared.past.Reach.{Reach}

-- The view that the sender is in; 0 where the message names one that it may not be in yet, or none.
abbrev pub view_said : {P : Type 0} → PeerMessage P → ℕ
view_said (Prepare v e p x) = v
view_said (PrepareOk v p) = v
view_said (Commit v x) = v
view_said (StartViewChange v) = v
view_said (DoViewChange v c) = v
view_said (StartView v held) = v
view_said (GetState v x) = 0
view_said (NewState v x tail) = v
view_said (Recovery x) = 0
view_said (RecoveryResponse x a) = a.view_number

-- a log that isn't named
abbrev pub none_named : Reach
none_named = record { last_normal = 0; length = 0 }

-- what a response holds
abbrev pub reach_held : {P : Type 0} → ℕ → Option (Snapshot P) → Reach
reach_held v None = none_named
reach_held v (Some held) = record { last_normal = v; length = length held.log }

-- How far the sender's log goes, at least.
abbrev pub reach_said : {P : Type 0} → PeerMessage P → Reach
reach_said (Prepare v e p x) = record { last_normal = v; length = p }
reach_said (PrepareOk v p) = record { last_normal = v; length = p }
reach_said (Commit v x) = record { last_normal = v; length = x }
reach_said (StartViewChange v) = none_named
reach_said (DoViewChange v c) = record { last_normal = c.last_normal_view; length = length c.log }
reach_said (StartView v held) = record { last_normal = v; length = length held.log }
reach_said (GetState v x) = none_named
reach_said (NewState v x tail) = record { last_normal = v; length = min (x + length tail.log) (2 ^ 64 - 1) }
reach_said (Recovery x) = none_named
reach_said (RecoveryResponse x a) = reach_held a.view_number a.held
