-- What a view store knows of its device while it is ready: what contracts that aren't public say of it.
-- What public contracts say is in specs/Store.
use Rattle.std.specs.Prelude.{◌≡◌, ℕ, List, length, Bool, true, ◌+◌, ◌%◌, ◌==◌, if◌then◌else◌}
use Rattle.view_store.specs.declared.state.State.{State}
use Rattle.view_store.specs.declared.state.State.TheVariants.{New, Ready, Failed}
use Rattle.view_store.specs.declared.state.Gates.{Gates}
use Rattle.view_store.specs.Device.{Only}
use Rattle.view_store.specs.Slots.{taken_from, sequence_of}
use Rattle.view_store.specs.private.Slots.{is_gate_open}

-- what a store keeps in mind of the octets of its device
pub record Knows (image : List ℕ) (sequence : ℕ) (gates : Gates) : Type 0 where
  pub whole : length image ≡ 64
  pub sequence_is : sequence ≡ sequence_of (taken_from image)
  pub first_gate : gates.first ≡ is_gate_open 0 image
  pub second_gate : gates.second ≡ is_gate_open 32 image

-- A store that is ready knows what is seen, and all of that is on the device.
abbrev pub IsInMind : State → List ℕ → (List ℕ → Type 0) → Type 0
IsInMind New image may_leave = Unit {0}
IsInMind Failed image may_leave = Unit {0}
IsInMind (Ready sequence gates) image may_leave = Knows image sequence gates × Only image may_leave

-- whether the next sequence has its place in the first slot
abbrev pub is_first : ℕ → Bool
is_first sequence = sequence % 2 == 0

-- where the slot begins that the next sequence has its place in
abbrev pub place_of : ℕ → ℕ
place_of sequence = if is_first sequence then 0 else 32

-- whether that slot's gate is open
abbrev pub gate_of : ℕ → Gates → Bool
gate_of sequence gates = if is_first sequence then gates.first else gates.second

-- where a zero closes that slot: at its gate, or at its end where its gate isn't open
abbrev pub closing_of : ℕ → Gates → ℕ
closing_of sequence gates = place_of sequence + (if gate_of sequence gates then 0 else 31)

-- the gates after a store of the next sequence
abbrev pub opened : ℕ → Gates → Gates
opened sequence gates =
    record {
      first = if is_first sequence then true else gates.first;
      second = if is_first sequence then gates.second
          else true;
    }
