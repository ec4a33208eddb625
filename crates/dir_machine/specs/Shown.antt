-- What is read from the replies that a machine has shown: where each process stands, and the messages that nodes gave
-- out.
use Rattle.std.specs.Prelude.{ℕ, suc, ◌==◌, cond, List, [], ◌∷◌, Option, Some, None, Result, Ok, Err, Vec, slice_get}
use Rattle.std.specs.Global.{Global}
use Rattle.std.specs.declared.alloc.AllocError.{AllocError}
use Rattle.dir_node.specs.Outcomes.{OutcomeValue, done, pending, stale, lost}
use Rattle.state_machine.specs.directory_api.View.{reply_view}
use Rattle.state_machine.specs.dir_store.ldap_op.Values.{OpValue}
use Rattle.vr_state.specs.declared.message.Outputs.{Outputs}
use Rattle.vr_state.specs.declared.message.Send.{Send}
use Rattle.vr_world.specs.declared.words.Message.{Message}
use Rattle.dir_machine.specs.declared.events.FramePlace.{FramePlace}
use Rattle.dir_machine.specs.declared.events.Place.{Place}
use Rattle.dir_machine.specs.declared.replies.Became.{Became}
use Rattle.dir_machine.specs.declared.replies.Became.TheVariants as became
use Rattle.dir_machine.specs.declared.replies.MachineReply.{MachineReply}
use Rattle.dir_machine.specs.declared.replies.MachineReply.TheVariants.{Handled, Stopped, Crashed, Started, Written}

-- Where the process of a replica stands: it was never up, it is up, or it ended and its device is kept.
pub data Stage : Type 0 where
  unborn : Stage
  up : Stage
  down : Stage

-- where a process stands whose device failed: one that was up ended, one that was to start isn't up
abbrev pub stopped : Stage → Stage
stopped up = down
stopped s = s

-- What a reply says of replica i, that stood so before.
abbrev pub stage_by : ℕ → Stage → MachineReply → Stage
stage_by i s (Started j restarts outputs) = cond (j == i) up s
stage_by i s (Crashed j) = cond (j == i) down s
stage_by i s (Stopped j error) = cond (j == i) (stopped s) s
stage_by i s _ = s

-- So after all of these.
abbrev pub stage_after : ℕ → Stage → List MachineReply → Stage
stage_after i s [] = s
stage_after i s (x ∷ xs) = stage_after i (stage_by i s x) xs

-- Where replica i stands after what was shown.
abbrev pub stage : List MachineReply → ℕ → Stage
stage shown i = stage_after i unborn shown

-- A send of replica i, as a message of the network.
abbrev pub message_by : ℕ → Option (Send OpValue) → Option (Message OpValue)
message_by i None = None
message_by i (Some s) = Some (record { from = i; to = s.to; body = s.message })

-- The send of this index among what replica i gave out.
abbrev pub message_of : ℕ → Outputs OpValue → ℕ → Option (Message OpValue)
message_of i out at = message_by i (slice_get out.sends.items at)

-- That of a part of a batch.
abbrev pub message_in : ℕ → Option (Result (Outputs OpValue) AllocError) → ℕ → Option (Message OpValue)
message_in i (Some (Ok out)) at = message_of i out at
message_in i (Some (Err e)) at = None
message_in i None at = None

-- That of a reply.
abbrev pub message_shown : Option MachineReply → (part at : ℕ) → Option (Message OpValue)
message_shown (Some (Handled i given behind)) part at = message_in i (slice_get given.items part) at
message_shown (Some (Started i restarts outputs)) part at = message_of i outputs at
message_shown _ part at = None

-- The message at a place among what was shown; none where nothing was given out there.
abbrev pub message_at : List MachineReply → Place → Option (Message OpValue)
message_at shown p = message_shown (slice_get shown p.event) p.part p.send

-- The message whose frames a reply shows.
abbrev pub message_written : List MachineReply → Option MachineReply → Option (Message OpValue)
message_written shown (Some (Written place to frames)) = message_at shown place
message_written shown _ = None

-- The message whose frames were shown at an event; none where none were.
abbrev pub message_framed : List MachineReply → ℕ → Option (Message OpValue)
message_framed shown e = message_written shown (slice_get shown e)

-- frames, as they are in memory
abbrev pub octets_of : List (Vec ℕ Global) → List (List ℕ)
octets_of [] = []
octets_of (v ∷ vs) = v.items ∷ octets_of vs

-- the octets of a frame, where there is one
abbrev pub octets_in : Option (Vec ℕ Global) → Option (List ℕ)
octets_in None = None
octets_in (Some v) = Some v.items

-- The frame of this index that a reply shows for replica i.
abbrev pub frame_in : ℕ → Option MachineReply → ℕ → Option (List ℕ)
frame_in i (Some (Written place to frames)) k = cond (to == i) (octets_in (slice_get frames.items k)) None
frame_in i _ k = None

-- the places of frames of an event, from this one on
abbrev pub places_from : ℕ → ℕ → List (Vec ℕ Global) → List FramePlace
places_from e k [] = []
places_from e k (v ∷ vs) = record { event = e; frame = k } ∷ places_from e (suc k) vs

-- The places of all frames that the reply to an event shows, in order.
abbrev pub places_in : ℕ → Option MachineReply → List FramePlace
places_in e (Some (Written place to frames)) = places_from e 0 frames.items
places_in e _ = []

-- what became of a request, in memory
abbrev pub became_view : Became → OutcomeValue
became_view (became.Done number reply) = done number (reply_view reply)
became_view became.Pending = pending
became_view became.Stale = stale
became_view became.Lost = lost
