-- Which event of a node stands for what a replica is given.
use Rattle.std.specs.Prelude.{◌≡◌, ◌≢◌, ◌⊎◌, ℕ, List, [], ◌∷◌, Option, Some, None, Vec}
use Rattle.std.specs.Global.{Global}
use Rattle.state_machine.specs.dir_store.ldap_op.Values.{OpValue}
use Rattle.vr_state.specs.declared.event.Event.{Event}
use Rattle.vr_state.specs.declared.event.Event.TheVariants as event
use Rattle.vr_world.specs.declared.words.Message.{Message}
use Rattle.dir_machine.specs.Shown.{message_at}
use Rattle.dir_machine.specs.declared.events.Given.{Given}
use Rattle.dir_machine.specs.declared.events.Given.TheVariants as given
use Rattle.dir_machine.specs.declared.replies.MachineReply.{MachineReply}
use Rattle.dir_machine.specs.private.Hearing.{FramesCome, PlacesCome}

-- A message that was given out for replica i comes.
pub record IsHeard (i : ℕ) (o : Option (Message OpValue)) (e : Event OpValue) : Type 0 where
  pub message : Message OpValue
  pub shown : o ≡ Some message
  pub to : message.to ≡ i
  pub is : e ≡ event.Message message.from message.body

-- What a replica is given is this event of its node.
abbrev pub IsAsked : ℕ → List MachineReply → ℕ → Given → Event OpValue → Type 0
IsAsked cluster before i (given.Request entry) e = e ≡ event.Request entry
IsAsked cluster before i (given.Message place) e = IsHeard i (message_at before place) e
IsAsked cluster before i (given.Frames at heard) e = FramesCome cluster before i at (Some e)
IsAsked cluster before i (given.Heard places) e = PlacesCome cluster before i places.items (Some e)
IsAsked cluster before i given.Suspect e = e ≡ event.Suspect
IsAsked cluster before i given.Beat e = e ≡ event.Beat

-- Each of these is, in order.
abbrev pub AreAsked : ℕ → List MachineReply → ℕ → List Given → List (Event OpValue) → Type 0
AreAsked cluster before i [] [] = Unit {0}
AreAsked cluster before i (g ∷ gs) (e ∷ es) = IsAsked cluster before i g e × AreAsked cluster before i gs es
AreAsked cluster before i _ _ = ⊥

-- No message was given out for replica i there, or none comes of frames.
abbrev pub IsAbsent : ℕ → List MachineReply → ℕ → Given → Type 0
IsAbsent cluster before i (given.Message place) = (m : Message OpValue) → message_at before place ≡ Some m → m.to ≢ i
IsAbsent cluster before i (given.Frames at heard) = FramesCome cluster before i at None
IsAbsent cluster before i (given.Heard places) = PlacesCome cluster before i places.items None
IsAbsent cluster before i _ = ⊥

-- So with one of these.
abbrev pub IsOneAbsent : ℕ → List MachineReply → ℕ → List Given → Type 0
IsOneAbsent cluster before i [] = ⊥
IsOneAbsent cluster before i (g ∷ gs) = IsAbsent cluster before i g ⊎ IsOneAbsent cluster before i gs

-- the event, or none where it is a message that isn't there
abbrev pub IsAskedOr : ℕ → List MachineReply → ℕ → Given → Option (Event OpValue) → Type 0
IsAskedOr cluster before i g (Some e) = IsAsked cluster before i g e
IsAskedOr cluster before i g None = IsAbsent cluster before i g

-- the events, or none where one is a message that isn't there
abbrev pub AreAskedOr : ℕ → List MachineReply → ℕ → List Given → Option (Vec (Event OpValue) Global) → Type 0
AreAskedOr cluster before i gs (Some es) = AreAsked cluster before i gs es.items
AreAskedOr cluster before i gs None = IsOneAbsent cluster before i gs
