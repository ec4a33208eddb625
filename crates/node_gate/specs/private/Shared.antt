-- What a session is told by a node that threads share: what contracts that aren't public say of it.
-- What public contracts say is in specs/Shared.
use Rattle.std.specs.Prelude.{◌≡◌, ◌==◌, ℕ, cond, Option, Some, None}
use Rattle.dir_seats.specs.directory_api.Talk.{Exchange, asked_role, learned, searched, compared, updated}
use Rattle.dir_seats.specs.directory_api.Talk.{EndedValue}
use Rattle.dir_seats.specs.directory_api.Talk as talk
use Rattle.dir_node.specs.dir_store.ldap_op.Values.{OpValue}
use Rattle.dir_node.specs.vr_state.Words.{Client}
use Rattle.dir_node.specs.vr_state.declared.event.Event.{Event}
use Rattle.dir_node.specs.vr_state.declared.event.Event.TheVariants as event
use Rattle.dir_node.specs.state_machine.Executing.{ExecutedValue}
use Rattle.dir_node.specs.NodeState.{NodeValue}
use Rattle.dir_node.specs.Outcomes.{standing_of}
use Rattle.dir_node.specs.declared.standing.Standing.{Standing}
use Rattle.dir_node.specs.declared.standing.Standing.TheVariants.{Recovering}
use Rattle.node_gate.specs.Identities.{NodeIdentity}
use Rattle.node_gate.specs.Moved.{AreOf, step_at}
use Rattle.node_gate.specs.Shared.{SettlesAs}

-- how a node stands to sessions: as one that recovers, until it has committed as much as its journal told when it went
-- on from it
abbrev pub standing_to_sessions : {D J : Type 0} → NodeValue D J → Standing
standing_to_sessions n = cond (n.catch_up == 0) (standing_of n) Recovering

-- A request ended as its outcome at this state of the node of this identity, if one was taken under the lock.
abbrev pub IsEndedAt : {D J : Type 0} → NodeIdentity → Option (NodeValue D J) → Client → ℕ → EndedValue → Type 0
IsEndedAt own None client number ended = ⊥
IsEndedAt own (Some held) client number ended = SettlesAs own held client number ended

-- An update is lost where the node doesn't take it, and isn't made where there is no memory for it; else it ended as
-- its outcome at that state.
abbrev pub IsUpdated : {D J : Type 0} → NodeIdentity → Option (NodeValue D J) → Client → ℕ → EndedValue → Type 0
IsUpdated own held client number (talk.done place reply) = IsEndedAt own held client number (talk.done place reply)
IsUpdated own held client number talk.stale = IsEndedAt own held client number talk.stale
IsUpdated own held client number talk.lost = Unit {0}
IsUpdated own held client number talk.refused_memory = Unit {0}

-- An update isn't taken: it is lost, or there is no memory for it.
abbrev pub IsRefused : EndedValue → Type 0
IsRefused (talk.done place reply) = ⊥
IsRefused talk.stale = ⊥
IsRefused talk.lost = Unit {0}
IsRefused talk.refused_memory = Unit {0}

-- a client's request of this number, for this update
abbrev pub request_of : Client → ℕ → OpValue → Event OpValue
request_of client number op = event.Request (record { client = client; request_number = number; payload = op })

-- An event was posted, or the node of this identity made its step at it.
abbrev pub GivesRequest : {D J : Type 0} → NodeIdentity → Option (NodeValue D J × NodeValue D J) → Event OpValue →
    Type 0
GivesRequest own None e = Unit {0}
GivesRequest own (Some (b, a)) e = AreOf own b a × (a.replica ≡ (step_at b e).state)

-- What was given for an update is that client's request of that number for that update, and nothing else; nothing is
-- given where there is no memory for the update.
abbrev pub IsGivenFor : {D J : Type 0} → NodeIdentity → Option (Event OpValue) →
    Option (NodeValue D J × NodeValue D J) → Client → ℕ → OpValue → EndedValue → Type 0
IsGivenFor own None moved client number op ended = ended ≡ talk.refused_memory
IsGivenFor own (Some given) moved client number op ended = (given ≡ request_of client number op)
    × GivesRequest own moved given

-- what a gate to the node of this identity may be told, where it gave this event, which made this of the node, and then
-- took this state of the node under the lock
abbrev pub gates : {D J : Type 0} → NodeIdentity → Option (Event OpValue) → Option (NodeValue D J × NodeValue D J) →
    Option (NodeValue D J)
    → Exchange (Option ExecutedValue) → Type 0
gates own given moved held (asked_role role told) = Unit {0}
gates own given moved held (learned told) = ⊥
gates own given moved held (searched named q looked) = ⊥
gates own given moved held (compared named q looked) = ⊥
gates own given moved held (updated client number op ended) = IsGivenFor own given moved client number op ended
    × IsUpdated own held client number ended
