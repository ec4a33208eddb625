-- Replicas and all messages that were ever sent, under every schedule. Nothing of what is committed is said here: a
-- world knows no more than its replicas and its network do.
use Rattle.std.specs.Prelude.{ℕ, ◌-◌, ◌==◌, nat_lt, nat_le, Bool, cond, ◌&&◌, List, [], ◌∷◌, length, Option, Some, None, slice_get}
use Rattle.std.specs.List.{list_any}
use Rattle.vr_state.specs.Outcome.{Outcome, to_all, idle}
use Rattle.vr_state.specs.State.{State, first, recovering, resuming, is_recovering}
use Rattle.vr_state.specs.ViewChange.{own_change}
use Rattle.vr_state.specs.declared.message.Change.{Change}
use Rattle.vr_state.specs.Step.{step}
use Rattle.vr_state.specs.declared.message.Send.{Send}
use Rattle.vr_state.specs.declared.words.Reply.{Reply}
use Rattle.vr_state.specs.declared.event.Event.TheVariants as event
use Rattle.vr_state.specs.declared.message.PeerMessage.TheVariants.{Recovery}
pub use Rattle.vr_world.specs.declared.words.Message.{Message}
pub use Rattle.vr_world.specs.declared.words.ReplyBy.{ReplyBy}
pub use Rattle.vr_world.specs.declared.events.WorldEvent.{WorldEvent}
use Rattle.vr_world.specs.declared.events.WorldEvent.TheVariants.{Request, Deliver, Suspect, Beat, Crash, Recover, Resume}

-- The world: the replicas that are up, what outlives their crashes, and all that was ever sent or answered.
pub record World (P : Type 0) : Type 0 where
  pub replicas : ℕ → Option (State P)  -- by index; None where it is down
  pub stored : ℕ → ℕ  -- the view that outlives a crash
  pub kept : ℕ → Option (Change P)  -- what the journal of one that is down has kept of it; None where that isn't whole
  pub nonces : ℕ → List ℕ  -- those that this replica has used
  pub messages : List (Message P)  -- each that was ever sent, the newest first
  pub replies : List ReplyBy  -- each that was ever given, the newest first

-- f, but x at i.
abbrev pub put : {A : Type 0} → ℕ → A → (ℕ → A) → ℕ → A
put i x f j = cond (j == i) x (f j)

-- The messages with these, sent by i, on top: the last one topmost.
abbrev pub posted : {P : Type 0} → ℕ → List (Send P) → List (Message P) → List (Message P)
posted i [] ms = ms
posted i (s ∷ sends) ms = posted i sends (record { from = i; to = s.to; body = s.message } ∷ ms)

-- The replies with these, given by i, on top.
abbrev pub answered : ℕ → List Reply → List ReplyBy → List ReplyBy
answered i [] ts = ts
answered i (r ∷ rs) ts = answered i rs (record { replica = i; reply = r } ∷ ts)

-- Replica i has made a step: its view is stored before anything is sent.
abbrev pub made : {P : Type 0} → ℕ → Outcome P → World P → World P
made i d w = record w {
  replicas = put i (Some d.state) w.replicas;
  stored = put i d.state.view_number w.stored;
  messages = posted i d.sends w.messages;
  replies = answered i d.replies w.replies;
}

-- A step of replica i, if it is up.
abbrev pub stepped : {P : Type 0} → ℕ → (State P → Outcome P) → Option (State P) → World P → World P
stepped i act None w = w
stepped i act (Some r) w = made i (act r) w

-- The message comes to its receiver.
abbrev pub delivered : {P : Type 0} → ℕ → Option (Message P) → World P → World P
delivered n None w = w
delivered n (Some m) w = stepped m.to (λ r. step n m.to r (event.Message m.from m.body)) (w.replicas m.to) w

-- What a journal keeps of a replica: what its DOVIEWCHANGE would tell. Nothing of one that recovers.
abbrev pub kept_of : {P : Type 0} → State P → Option (Change P)
kept_of r = cond (is_recovering r.status) None (Some (own_change r))

-- A replica that is up crashes: all but the stored view and what its journal keeps is lost.
abbrev pub crashed : {P : Type 0} → ℕ → Option (State P) → World P → World P
crashed i None w = w
crashed i (Some r) w = record w { replicas = put i None w.replicas; kept = put i (kept_of r) w.kept }

-- A replica that is down goes on from its journal, in its stored view; nothing where its journal isn't whole.
abbrev pub resumed : {P : Type 0} → ℕ → ℕ → ℕ → Option (State P) → Option (Change P) → World P → World P
resumed n i k None (Some c) w = made i (idle (resuming n (w.stored i) k c)) (record w { kept = put i None w.kept })
resumed n i k r c w = w

-- The nonce is one of those that were used.
abbrev pub has_used : ℕ → List ℕ → Bool
has_used x nonces = list_any (λ y. y == x) nonces

-- A replica that is down comes back with a nonce that it never used, in its stored view, and asks all others.
abbrev pub recovered : {P : Type 0} → ℕ → ℕ → ℕ → Option (State P) → World P → World P
recovered n i x (Some r) w = w
recovered n i x None w =
    cond (has_used x (w.nonces i)) w
    (made i (record { state = recovering n (w.stored i) x; sends = to_all n i (Recovery x); replies = [] })
    (record w { nonces = put i (x ∷ w.nonces i) w.nonces }))

-- The message with this number, 1 for the first that was sent.
abbrev pub sent_as : {P : Type 0} → ℕ → List (Message P) → Option (Message P)
sent_as k ms = cond (nat_lt 0 k && nat_le k (length ms)) (slice_get ms (length ms - k)) None

-- The world after one event. An event at a replica that isn't there is nothing.
abbrev pub happens : {P : Type 0} → ℕ → World P → WorldEvent P → World P
happens n w (Request i e) = cond (nat_lt i n) (stepped i (λ r. step n i r (event.Request e)) (w.replicas i) w) w
happens n w (Deliver k) = delivered n (sent_as k w.messages) w
happens n w (Suspect i) = cond (nat_lt i n) (stepped i (λ r. step n i r event.Suspect) (w.replicas i) w) w
happens n w (Beat i) = cond (nat_lt i n) (stepped i (λ r. step n i r event.Beat) (w.replicas i) w) w
happens n w (Crash i) = cond (nat_lt i n) (crashed i (w.replicas i) w) w
happens n w (Recover i x) = cond (nat_lt i n) (recovered n i x (w.replicas i) w) w
happens n w (Resume i k) = cond (nat_lt i n) (resumed n i k (w.replicas i) (w.kept i) w) w

-- The first world: n replicas in view 0, and nothing sent.
abbrev pub start : {P : Type 0} → ℕ → World P
start n = record {
  replicas = λ i. cond (nat_lt i n) (Some (first n)) None;
  stored = λ i. 0;
  kept = λ i. None;
  nonces = λ i. [];
  messages = [];
  replies = [];
}

-- The world after a whole schedule.
abbrev pub run : {P : Type 0} → ℕ → List (WorldEvent P) → World P → World P
run n [] w = w
run n (e ∷ es) w = run n es (happens n w e)

-- The world after these events from the start.
abbrev pub after : {P : Type 0} → ℕ → List (WorldEvent P) → World P
after n es = run n es (start n)
