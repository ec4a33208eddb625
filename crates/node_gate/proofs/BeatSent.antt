-- What the beat among a batch of events sends is what a beat of the replica sends in some state.
use Rattle.std.proofs.Common.{◌≡◌, ℕ, zero, suc, List, [], ◌∷◌, Option, Some, None, IfSome, Result, Ok, Err, subst, ap, ◌∙◌}
use Rattle.std.specs.List.{slice_get}
use Rattle.std.specs.declared.alloc.AllocError.{AllocError}
use Rattle.dir_node.specs.dir_store.ldap_op.Values.{OpValue}
use Rattle.dir_node.specs.vr_state.Outcome as steps
use Rattle.dir_node.specs.vr_state.State.{State}
use Rattle.dir_node.specs.vr_state.Step.{step}
use Rattle.dir_node.specs.vr_state.declared.event.Event.{Event}
use Rattle.dir_node.specs.vr_state.declared.event.Event.TheVariants.{Beat}
use Rattle.dir_node.specs.vr_state.declared.message.Outputs.{Outputs}
use Rattle.dir_node.specs.vr_state.declared.message.Send.{Send}
use Rattle.dir_node.specs.Handling.{MakesSteps}
use Rattle.dir_node.specs.NodeState.{NodeValue}
use Rattle.node_gate.specs.Batches.{sends_at, sends_if}
use Rattle.node_gate.specs.Identities.{NodeIdentity, identity_of}
use Rattle.node_gate.specs.Moved.{IsBeatOf, step_at}
use Rattle.node_gate.specs.private.Batches.{IsBeatAt}

sent : (n i : ℕ) (r s : State OpValue) (events : List (Event OpValue))
    (outputs : List (Result (Outputs OpValue) AllocError)) (k : ℕ) (sends : List (Send OpValue))
    → MakesSteps n i r events outputs s → slice_get events k ≡ Some Beat → sends_if (slice_get outputs k) ≡ Some sends
    → (t : State OpValue) × (sends ≡ (step n i t Beat).sends)
sent n i r s [] outputs k sends steps at given = absurd (cc)
sent n i r s (e ∷ es) [] k sends steps at given = absurd steps
sent n i r s (e ∷ es) (Ok out ∷ xs) zero sends (t, is, rest) at given =
    let beat : e ≡ Beat = cc in
    let gives : sends ≡ out.sends.items = cc in
    (r, gives ∙ ap (λ (o : steps.Outcome OpValue). o.sends) is ∙ ap (λ (x : Event OpValue). (step n i r x).sends) beat)
sent n i r s (e ∷ es) (Ok out ∷ xs) (suc k) sends (t, is, rest) at given = sent n i t s es xs k sends rest at given
sent n i r s (e ∷ es) (Err x ∷ xs) zero sends steps at given = absurd (cc)
sent n i r s (e ∷ es) (Err x ∷ xs) (suc k) sends steps at given = sent n i r s es xs k sends steps at given

pub beat_sent : (n i : ℕ) (r s : State OpValue) (events : List (Event OpValue))
    (outputs : List (Result (Outputs OpValue) AllocError)) (place : Option ℕ) (sends : List (Send OpValue))
    → MakesSteps n i r events outputs s → IsBeatAt place events → sends_at place outputs ≡ Some sends →
    (t : State OpValue) × (sends ≡ (step n i t Beat).sends)
beat_sent n i r s events outputs None sends steps at given = absurd (cc)
beat_sent n i r s events outputs (Some k) sends steps at given = sent n i r s events outputs k sends steps at given

-- so of the node of an identity
pub beat_of : {D J : Type 0} (own : NodeIdentity) (old new : NodeValue D J) (events : List (Event OpValue))
    (outputs : List (Result (Outputs OpValue) AllocError))
    (place : Option ℕ) (sends : List (Send OpValue)) → identity_of old ≡ own → MakesSteps old.count old.index
    old.replica events outputs new.replica
    → IsBeatAt place events → sends_at place outputs ≡ Some sends → IsBeatOf own sends
beat_of own old new events outputs place sends own_is steps at given =
    subst (λ (o : NodeIdentity). IsBeatOf o sends) own_is ∣ beat_sent old.count old.index old.replica new.replica
    events outputs place sends steps at given ∣₁

-- what a beat of a node sends is what a beat of a node of its identity sends
beat_is : {D J : Type 0} (own : NodeIdentity) (n : NodeValue D J) (sends : List (Send OpValue)) → identity_of n ≡
    own → sends ≡ (step_at n Beat).sends → IsBeatOf own sends
beat_is own n sends own_is is = subst (λ (o : NodeIdentity). IsBeatOf o sends) own_is ∣ (n.replica, is) ∣₁

-- so where copies of it are kept
pub beats_of : {D J V : Type 0} (own : NodeIdentity) (n : NodeValue D J) (items : V → List (Send OpValue))
    (Q : Type 0) (beat : Option V) → identity_of n ≡ own
    → IfSome beat (λ c. Q × (items c ≡ (step_at n Beat).sends)) → IfSome beat (λ c. IsBeatOf own (items c))
beats_of own n items Q None own_is copied = tt
beats_of own n items Q (Some c) own_is copied = beat_is own n (items c) own_is copied.1
