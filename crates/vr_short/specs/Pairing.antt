-- Notes and the messages that they go with, on one connection.
use Rattle.std.specs.Prelude.{◌≡◌, ℕ, Bool, true, false, cond, List, [], ◌∷◌, Option, Some, None}
use Rattle.vr_state.specs.declared.message.PeerMessage.{PeerMessage}
use Rattle.vr_state.specs.declared.message.PeerMessage.TheVariants.{StartViewChange, DoViewChange, StartView}
use Rattle.vr_short.specs.Short.{left_out}

-- The number that goes with a message to a replica that has said that it has committed so much, from one that has
-- committed so much itself.
abbrev pub note_of : {P : Type 0} → ℕ → ℕ → PeerMessage P → Option ℕ
note_of said committed (StartViewChange v) = Some committed
note_of said committed (DoViewChange v c) = Some (left_out said (DoViewChange v c))
note_of said committed (StartView v held) = Some (left_out said (StartView v held))
note_of said committed _ = None

-- A number goes with it.
abbrev pub is_noted : {P : Type 0} → PeerMessage P → Bool
is_noted (StartViewChange v) = true
is_noted (DoViewChange v c) = true
is_noted (StartView v held) = true
is_noted _ = false

-- a message that is sent: what is known of its receiver and its sender then, and whether it comes whole
pub record Sending (P : Type 0) : Type 0 where
  pub said : ℕ
  pub committed : ℕ
  pub message : PeerMessage P
  pub comes : Bool

-- its note
abbrev pub own_note : {P : Type 0} → Sending P → Option ℕ
own_note s = note_of s.said s.committed s.message

-- the last of two notes
abbrev pub newest : Option ℕ → Option ℕ → Option ℕ
newest (Some n) before = Some n
newest None before = before

-- a message with the note that it is taken with, before others, if a number goes with it
abbrev pub with_note : {P : Type 0} → Option ℕ → PeerMessage P → List (Option ℕ × PeerMessage P) →
    List (Option ℕ × PeerMessage P)
with_note n m rest = cond (is_noted m) ((n, m) ∷ rest) rest

-- What a receiver takes for the note of each message that comes: the last that came before it and after the message
-- before.
abbrev pub paired : {P : Type 0} → Option ℕ → List (Sending P) → List (Option ℕ × PeerMessage P)
paired before [] = []
paired before (s ∷ ss) =
    cond s.comes (with_note (newest (own_note s) before) s.message (paired None ss))
    (paired (newest (own_note s) before) ss)

-- each message that comes, with its own note
abbrev pub own_pairs : {P : Type 0} → List (Sending P) → List (Option ℕ × PeerMessage P)
own_pairs [] = []
own_pairs (s ∷ ss) = cond s.comes (with_note (own_note s) s.message (own_pairs ss)) (own_pairs ss)

-- Whichever messages are lost behind their notes, each that comes and has a note is taken with its own.
abbrev pub NotesArePaired : Type 0 → Type 0
NotesArePaired P = (before : Option ℕ) (ss : List (Sending P)) → paired before ss ≡ own_pairs ss
