-- Frames: what contracts that aren't public say of it.
-- What public contracts say is in specs/Payloads.
use Rattle.std.specs.Prelude.{ℕ, List, Result, Ok, Err}
use Rattle.ldap_op.specs.Values.{OpValue}
use Rattle.vr_state.specs.declared.message.PeerMessage.{PeerMessage}
use Rattle.vr_wire.specs.declared.error.WireError.{WireError}
use Rattle.vr_wire.specs.Payloads.{Refuses, IsFrame}

-- what is read of something, seen by `view`, stands for it, or nothing is read
abbrev pub ReadsAs : {X A B : Type 0} → (X → A) → (A → B → Type 0) → Result X WireError → B → Type 0
ReadsAs view Is (Ok x) b = Is (view x) b
ReadsAs view Is (Err e) b = Refuses Is e b

-- what is read of something stands for it, or nothing is read
abbrev pub Reads : {A B : Type 0} → (A → B → Type 0) → Result A WireError → B → Type 0
Reads Is (Ok a) b = Is a b
Reads Is (Err e) b = Refuses Is e b

-- the octets are a frame of this cluster and what is said in it
abbrev pub IsFrameOf : ℕ × (ℕ × PeerMessage OpValue) → List ℕ → Type 0
IsFrameOf p octets = IsFrame p.0 p.1.0 p.1.1 octets
