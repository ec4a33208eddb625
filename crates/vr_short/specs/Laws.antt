-- What holds of messages that were shortened.
use Rattle.std.specs.Prelude.{◌≡◌, ◌<◌, ◌≤◌, ◌^◌, ℕ, List, ◌++◌, length, take, drop, Some}
use Rattle.std.specs.Int.{w64, from_be_bytes}
use Rattle.ldap_op.specs.Values.{OpValue}
use Rattle.vr_state.specs.Lists.{In}
use Rattle.vr_state.specs.State.{State}
use Rattle.vr_state.specs.declared.message.PeerMessage.{PeerMessage}
use Rattle.vr_wire.specs.Payloads.{IsFrame}
use Rattle.vr_world.specs.Beginnings.{log_in, committed_in}
use Rattle.vr_world.specs.Law.{IsSize}
use Rattle.vr_world.specs.World.{World, after}
use Rattle.vr_world.specs.declared.events.WorldEvent.{WorldEvent}
use Rattle.vr_world.specs.declared.words.Message.{Message}
use Rattle.vr_short.specs.Short.{shortened, filled}
use Rattle.vr_short.specs.Notes.{note_heading, note_octets}

-- Of a world, a message that was ever sent, a replica that is up, and a number of records that both count as committed.
pub record MayLeaveOut {P : Type 0} (w : World P) (m : Message P) (r : State P) (x : ℕ) : Type 0 where
  pub sent : In m w.messages
  pub index : ℕ
  pub up : w.replicas index ≡ Some r
  pub sender : x ≤ committed_in m.body
  pub there : x ≤ length (log_in m.body)
  pub receiver : x ≤ r.commit_number

-- Whatever happened, a message that was shortened, and is filled by a replica that has committed what was left out, is
-- the message that was sent.
abbrev pub FilledIsSent : Type 0 → Type 0
FilledIsSent P = (n : ℕ) → IsSize n → (es : List (WorldEvent P)) (m : Message P) (r : State P) (x : ℕ) →
    MayLeaveOut (after n es) m r x → filled x r.log (shortened x m.body) ≡ m.body

-- So is what a replica reads from a frame of the shortened message, and fills.
abbrev pub ReadIsSent : Type 0
ReadIsSent = (n : ℕ) → IsSize n → (es : List (WorldEvent OpValue)) (m : Message OpValue) (r : State OpValue) (x : ℕ) →
    MayLeaveOut (after n es) m r x → (cluster sender other speaker : ℕ) (read : PeerMessage OpValue) (octets : List ℕ) →
    IsFrame cluster sender (shortened x m.body) octets → IsFrame other speaker read octets → filled x r.log read ≡
    m.body

-- A note is 13 octets by which it is known, and eight that are read as its number.
abbrev pub NotesAreRead : Type 0
NotesAreRead = (cluster sender n : ℕ) → n < 2 ^ 64 →
    (take 13 (note_octets cluster sender n) ≡ note_heading cluster sender)
    × (from_be_bytes w64 (drop 13 (note_octets cluster sender n)) ≡ n)
