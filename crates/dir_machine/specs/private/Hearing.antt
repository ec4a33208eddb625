-- What comes of frames that a connection hears.
use Rattle.std.specs.Prelude.{◌≡◌, ◌≢◌, ◌⊎◌, ◌==◌, ◌<◌, ◌^◌, ℕ, cond, List, [], ◌∷◌, length, Option, Some, None, Result, Ok, Err, Vec, slice_get}
use Rattle.std.specs.Global.{Global}
use Rattle.std.specs.List.{AllByRecursion}
use Rattle.state_machine.specs.dir_store.ldap_op.Values.{OpValue}
use Rattle.view_store.specs.Cluster.{IsCluster}
use Rattle.vr_state.specs.declared.event.Event.{Event}
use Rattle.vr_state.specs.declared.event.Event.TheVariants as event
use Rattle.vr_wire.specs.Gathering.{Takes, TakesAll}
use Rattle.vr_wire.specs.Heap.{Heap}
use Rattle.vr_wire.specs.declared.error.WireError.{WireError}
use Rattle.vr_wire.specs.declared.error.WireError.TheVariants.{NoMemory}
use Rattle.vr_wire.specs.declared.gathering.Came.{Came}
use Rattle.vr_wire.specs.declared.gathering.Came.TheVariants as came
use Rattle.vr_wire.specs.declared.parts.FrameSizes.{FrameSizes}
use Rattle.vr_world.specs.declared.words.Message.{Message}
use Rattle.dir_machine.specs.Happening.{AreWrittenAs, IsOneUnwritten, IsUnsendable}
use Rattle.dir_machine.specs.Shown.{frame_in, octets_of}
use Rattle.dir_machine.specs.declared.events.FramePlace.{FramePlace}
use Rattle.dir_machine.specs.declared.replies.MachineReply.{MachineReply}
use Rattle.dir_machine.specs.declared.replies.MachineReply.TheVariants as reply

-- the message that came, as an event
abbrev pub event_of : Result Came WireError → Option (Event OpValue)
event_of (Ok (came.Message sender m)) = Some (event.Message sender m)
event_of (Ok (came.Part sender)) = None
event_of (Ok (came.Dropped sender)) = None
event_of (Err e) = None

-- what came last, or before
abbrev pub last_event : Option (Event OpValue) → List (Result Came WireError) → Option (Event OpValue)
last_event o [] = o
last_event o (r ∷ rs) = last_event (event_of r) rs

-- This comes of one frame.
pub record HearsOne (cluster : ℕ) (old : Option Heap) (frame : List ℕ) (o : Option (Event OpValue))
    (new : Option Heap) : Type 0 where
  pub came : Result Came WireError
  pub takes : Takes cluster old frame came new
  pub enough : came ≢ Err NoMemory
  pub is : o ≡ event_of came

-- This comes of the last of some frames, which come one after the other.
pub record Hears (cluster : ℕ) (old : Option Heap) (frames : List (List ℕ)) (o : Option (Event OpValue))
    (new : Option Heap) : Type 0 where
  pub came : List (Result Came WireError)
  pub takes : TakesAll cluster old frames came new
  pub enough : AllByRecursion (λ r. r ≢ Err NoMemory) came
  pub is : o ≡ last_event None came

-- So it does on a connection that has gathered something before, or nothing.
pub record IsGathered (cluster : ℕ) (frames : List (List ℕ)) (o : Option (Event OpValue)) : Type 0 where
  pub cluster_is : IsCluster cluster
  pub old : Option Heap
  pub new : Option Heap
  pub hears : Hears cluster old frames o new

-- the frames that a reply shows for replica i
abbrev pub frames_in : ℕ → Option MachineReply → Option (List (List ℕ))
frames_in i (Some (reply.Written place to frames)) = cond (to == i) (Some (octets_of frames.items)) None
frames_in i _ = None

-- What comes of frames, where there are some.
abbrev pub ComesOf : ℕ → Option (List (List ℕ)) → Option (Event OpValue) → Type 0
ComesOf cluster None o = o ≡ None
ComesOf cluster (Some frames) o = IsGathered cluster frames o

-- What comes of the frames that were shown for replica i at an event.
abbrev pub FramesCome : ℕ → List MachineReply → ℕ → ℕ → Option (Event OpValue) → Type 0
FramesCome cluster before i e o = (e < 2 ^ 64) × ComesOf cluster (frames_in i (slice_get before e)) o

-- These octets are the frames at these places, in order.
abbrev pub AreAt : ℕ → List MachineReply → List FramePlace → List (List ℕ) → Type 0
AreAt i before [] [] = Unit {0}
AreAt i before (p ∷ places) (f ∷ fs) = (frame_in i (slice_get before p.event) p.frame ≡ Some f)
    × AreAt i before places fs
AreAt i before _ _ = ⊥

-- The frames at these places, or none where one isn't there.
abbrev pub AreAtOr : ℕ → List MachineReply → List FramePlace → Option (Vec (Vec ℕ Global) Global) → Type 0
AreAtOr i before places (Some vs) = AreAt i before places (octets_of vs.items)
AreAtOr i before places None = IsOneUnwritten before i places

-- This comes of the last of all frames that a connection heard.
pub record IsHeardFirst (cluster : ℕ) (frames : List (List ℕ)) (o : Option (Event OpValue)) : Type 0 where
  pub cluster_is : IsCluster cluster
  pub new : Option Heap
  pub hears : Hears cluster None frames o new

-- They are the frames at these places.
pub record IsHeardAt (cluster : ℕ) (before : List MachineReply) (i : ℕ) (places : List FramePlace)
    (o : Option (Event OpValue)) : Type 0 where
  pub few : length before < 2 ^ 64
  pub frames : List (List ℕ)
  pub at : AreAt i before places frames
  pub heard : IsHeardFirst cluster frames o

-- What comes of the frames at these places, or nothing where one isn't there.
abbrev pub PlacesCome : ℕ → List MachineReply → ℕ → List FramePlace → Option (Event OpValue) → Type 0
PlacesCome cluster before i places o = (IsOneUnwritten before i places × (o ≡ None))
    ⊎ IsHeardAt cluster before i places o

-- A message's frames, or none where it can't be sent.
abbrev pub AreWrittenOr : ℕ → ℕ → FrameSizes → Message OpValue → Option (Vec (Vec ℕ Global) Global) → Type 0
AreWrittenOr cluster number sizes m (Some frames) = AreWrittenAs cluster number sizes m (octets_of frames.items)
AreWrittenOr cluster number sizes m None = IsUnsendable cluster m
