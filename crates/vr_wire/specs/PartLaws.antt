-- What holds of messages in parts.
use Rattle.std.specs.Prelude.{◌≡◌, ◌≢◌, ◌<◌, ◌^◌, ℕ, List, [], ◌∷◌, ◌++◌, Option, None, Result, Ok, Err}
use Rattle.std.specs.List.{AllByRecursion}
use Rattle.ldap_op.specs.Values.{OpValue}
use Rattle.view_store.specs.Cluster.{IsCluster}
use Rattle.vr_state.specs.declared.message.PeerMessage.{PeerMessage}
use Rattle.vr_wire.specs.declared.error.WireError.{WireError}
use Rattle.vr_wire.specs.declared.error.WireError.TheVariants as error
use Rattle.vr_wire.specs.declared.labels.Portion.{Portion}
use Rattle.vr_wire.specs.declared.gathering.Came.{Came}
use Rattle.vr_wire.specs.declared.gathering.Came.TheVariants as came
use Rattle.vr_wire.specs.Heap.{Heap}
use Rattle.vr_wire.specs.Frames.{IsInRange}
use Rattle.vr_wire.specs.Payloads.{written}
use Rattle.vr_wire.specs.Laws.{records_of, AreUpdatesInRange}
use Rattle.vr_wire.specs.Parts.{IsSaying, IsPart, ArePartsOf, TellMessage, saying_octets}
use Rattle.vr_wire.specs.Gathering.{Takes, TakesAll}

-- what is written of a message in range says it
abbrev pub WrittenIsSaying : Type 0
WrittenIsSaying = (m : PeerMessage OpValue) → IsInRange (written m) → AreUpdatesInRange (records_of m) →
    IsSaying m (saying_octets (written m))

-- what comes of the parts of a message: a part of each but the last, and of the last the message
abbrev pub message_at_last : ℕ → PeerMessage OpValue → List (List ℕ) → List (Result Came WireError)
message_at_last sender m [] = []
message_at_last sender m (f ∷ []) = Ok (came.Message sender m) ∷ []
message_at_last sender m (f ∷ g ∷ fs) = Ok (came.Part sender) ∷ message_at_last sender m (g ∷ fs)

-- the parts of a message, taken in their order, whatever was gathered before, give that message at the last, where
-- memory suffices
abbrev pub PartsGiveMessage : Type 0
PartsGiveMessage =
    (cluster sender number : ℕ) (m : PeerMessage OpValue) (octets : List ℕ) (frames : List (List ℕ))
    (old new : Option Heap) (results : List (Result Came WireError))
    → IsCluster cluster → number < 2 ^ 64 → IsSaying m octets → ArePartsOf cluster sender number octets frames
    → TakesAll cluster old frames results new → AllByRecursion (λ r. r ≢ Err error.NoMemory) results
    → (results ≡ message_at_last sender m frames) × (new ≡ None)

-- the frames that tell a message, taken in their order, whatever was gathered before, give it at the last, where memory
-- suffices
abbrev pub FramesGiveMessage : Type 0
FramesGiveMessage =
    (cluster sender number : ℕ) (m : PeerMessage OpValue) (frames : List (List ℕ)) (old new : Option Heap)
    (results : List (Result Came WireError))
    → IsCluster cluster → number < 2 ^ 64 → TellMessage cluster sender number m frames
    → TakesAll cluster old frames results new → AllByRecursion (λ r. r ≢ Err error.NoMemory) results
    → (results ≡ message_at_last sender m frames) × (new ≡ None)

-- frames end with all the parts of this message of this sender, in their order
pub record EndsWithParts (cluster sender : ℕ) (m : PeerMessage OpValue) (frames : List (List ℕ)) : Type 0 where
  pub number : ℕ
  pub octets : List ℕ
  pub saying : IsSaying m octets
  pub before : List (List ℕ)
  pub parts : List (List ℕ)
  pub are : ArePartsOf cluster sender number octets parts
  pub ends : frames ≡ before ++ parts

-- where nothing was gathered at first and a message comes of a part, the frames that were taken last are that message's
-- parts, all of them and no other
abbrev pub OnlyPartsGiveMessage : Type 0
OnlyPartsGiveMessage =
    (cluster sender : ℕ) (m : PeerMessage OpValue) (frames : List (List ℕ)) (results : List (Result Came WireError))
    (p : Portion (List ℕ)) (last : List ℕ) (mid new : Option Heap)
    → TakesAll cluster None frames results mid → IsPart cluster p last →
    Takes cluster mid last (Ok (came.Message sender m)) new
    → EndsWithParts cluster sender m (frames ++ last ∷ [])
