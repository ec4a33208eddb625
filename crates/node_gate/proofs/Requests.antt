-- What a gate gives a node for an update is the request that was asked.
use Rattle.std.proofs.Common.{◌≡◌, ℕ, Option, Some, subst, sym, ap}
use Rattle.dir_seats.specs.directory_api.Talk.{EndedValue}
use Rattle.dir_node.specs.dir_store.ldap_op.Values.{OpValue}
use Rattle.dir_node.specs.vr_state.Words.{Client}
use Rattle.dir_node.specs.vr_state.declared.event.Event.{Event}
use Rattle.dir_node.specs.NodeState.{NodeValue}
use Rattle.node_gate.specs.Identities.{NodeIdentity}
use Rattle.node_gate.specs.private.Shared.{GivesRequest, IsGivenFor, request_of}

-- it is the request for this update
pub given_for : {D J : Type 0} (own : NodeIdentity) (given : Option (Event OpValue))
    (moved : Option (NodeValue D J × NodeValue D J)) (client : Client) (number : ℕ)
    (payload op : OpValue) (ended : EndedValue) → payload ≡ op → given ≡ Some (request_of client number payload) →
    GivesRequest own moved (request_of client number payload)
    → IsGivenFor own given moved client number op ended
given_for own given moved client number payload op ended is given_is gives =
    subst (λ (g : Option (Event OpValue)). IsGivenFor own g moved client number op ended) (sym given_is)
    (ap (request_of client number) is, gives)
