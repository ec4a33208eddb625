-- What a session is told by a node that threads share.
use Rattle.std.specs.Prelude.{◌≡◌, ◌⊎◌, ℕ}
use Rattle.dir_seats.specs.directory_api.Answers.{ReplyModel}
use Rattle.dir_seats.specs.directory_api.Talk.{EndedValue}
use Rattle.dir_seats.specs.directory_api.Talk as talk
use Rattle.dir_node.specs.vr_state.Words.{Client}
use Rattle.dir_node.specs.NodeState.{NodeValue}
use Rattle.dir_node.specs.Outcomes.{OutcomeValue, done, pending, stale, lost, outcome_of}
use Rattle.node_gate.specs.Identities.{NodeIdentity, identity_of}

-- how an outcome is told: as it is, unless its reply finds no memory; what is still to come is told as lost
abbrev pub EndsAs : OutcomeValue → EndedValue → Type 0
EndsAs o (talk.done number reply) = o ≡ done number reply
EndsAs o talk.stale = o ≡ stale
EndsAs o talk.lost = (o ≡ lost) ⊎ (o ≡ pending)
EndsAs o talk.refused_memory = (number : ℕ) × ((reply : ReplyModel) × (o ≡ done number reply))

-- A request ended as its outcome at this state of the node of this identity.
abbrev pub SettlesAs : {D J : Type 0} → NodeIdentity → NodeValue D J → Client → ℕ → EndedValue → Type 0
SettlesAs own held client number ended = (identity_of held ≡ own) × EndsAs (outcome_of held client number) ended
