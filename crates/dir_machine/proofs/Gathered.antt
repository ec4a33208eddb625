-- What comes of frames that a connection hears.
use Rattle.std.proofs.Common.{◌≡◌, ◌≢◌, ℕ, zero, suc, ◌==◌, ◌<◌, ◌^◌, Bool, true, false, cond, inl, inr, List, [], ◌∷◌, ◌++◌, length, Option, Some, None, Result, Err, Vec, slice_get, refl, sym, ap, ◌∙◌, subst, eqb-true, eq-eqb, true≢false}
use Rattle.std.specs.Global.{Global}
use Rattle.std.specs.List.{AllByRecursion, concat}
use Rattle.state_machine.specs.dir_store.ldap_op.Values.{OpValue}
use Rattle.vr_state.specs.declared.event.Event.{Event}
use Rattle.vr_state.specs.declared.event.Event.TheVariants as event
use Rattle.vr_state.specs.declared.message.PeerMessage.{PeerMessage}
use Rattle.vr_wire.specs.Gathering.{Takes, TakesAll}
use Rattle.vr_wire.specs.Heap.{Heap}
use Rattle.vr_wire.specs.PartLaws.{FramesGiveMessage, message_at_last}
use Rattle.vr_wire.specs.Parts.{ArePartsOf, IsSaying, TellMessage, parts_from}
use Rattle.vr_wire.specs.declared.error.WireError.{WireError}
use Rattle.vr_wire.specs.declared.error.WireError.TheVariants.{NoMemory}
use Rattle.vr_wire.specs.declared.gathering.Came.{Came}
use Rattle.vr_world.specs.World.{World, sent_as}
use Rattle.vr_world.specs.declared.words.Message.{Message}
use Rattle.dir_machine.specs.Happening.{IsOneUnwritten}
use Rattle.dir_machine.specs.Shown.{frame_in, message_at, message_framed, message_written, octets_of}
use Rattle.dir_machine.specs.private.Givens.{IsHeard}
use Rattle.dir_machine.specs.private.Hearing.{AreAt, ComesOf, FramesCome, Hears, HearsOne, IsGathered, event_of, frames_in, last_event}
use Rattle.dir_machine.specs.private.Running.{AreFramed, AreSent, IsFramed}
use Rattle.dir_machine.specs.declared.events.FramePlace.{FramePlace}
use Rattle.dir_machine.specs.declared.replies.MachineReply.{MachineReply}
use Rattle.dir_machine.specs.declared.replies.MachineReply.TheVariants as reply

-- One frame after another.

-- one more is taken
takes_more : (cluster : ℕ) (old mid new : Option Heap) (fs : List (List ℕ)) (f : List ℕ)
    (rs : List (Result Came WireError)) (r : Result Came WireError) → TakesAll cluster old fs rs mid →
    Takes cluster mid f r new → TakesAll cluster old (fs ++ f ∷ []) (rs ++ r ∷ []) new
takes_more cluster old mid new [] f [] r all one =
    (new, subst (λ (o : Option Heap). Takes cluster o f r new) all one, refl)
takes_more cluster old mid new (g ∷ fs) f (s ∷ rs) r all one =
    (all.0, all.1, takes_more cluster all.0 mid new fs f rs r all.2 one)
takes_more cluster old mid new [] f (s ∷ rs) r all one = absurd all
takes_more cluster old mid new (g ∷ fs) f [] r all one = absurd all

-- what came last
last_more : (o : Option (Event OpValue)) (rs : List (Result Came WireError)) (r : Result Came WireError) →
    last_event o (rs ++ r ∷ []) ≡ event_of r
last_more o [] r = refl
last_more o (s ∷ rs) r = last_more (event_of s) rs r

all_more : {A : Type 0} (P : A → Type 0) (xs : List A) (x : A) → AllByRecursion P xs → P x →
    AllByRecursion P (xs ++ x ∷ [])
all_more P [] x h one = (one, tt)
all_more P (y ∷ xs) x h one = (h.0, all_more P xs x h.1 one)

-- frames in memory
pub octets_more : (vs : List (Vec ℕ Global)) (v : Vec ℕ Global) → octets_of (vs ++ v ∷ [])
    ≡ octets_of vs ++ v.items ∷ []
octets_more [] v = refl
octets_more (u ∷ vs) v = ap (λ (l : List (List ℕ)). u.items ∷ l) (octets_more vs v)

-- Frames at places.

-- one more
pub at_more : (i : ℕ) (before : List MachineReply) (places all : List FramePlace) (vs ws : List (Vec ℕ Global))
    (p : FramePlace) (v : Vec ℕ Global) → all ≡ places ++ p ∷ [] → ws ≡ vs ++ v ∷ [] →
    frame_in i (slice_get before p.event) p.frame ≡ Some v.items → AreAt i before places (octets_of vs) →
    AreAt i before all (octets_of ws)
at_more i before places all vs ws p v is are one at =
    subst (λ (l : List FramePlace). AreAt i before l (octets_of ws)) (sym is)
    (subst (λ (fs : List (List ℕ)). AreAt i before (places ++ p ∷ []) fs) (sym (ap octets_of are ∙ octets_more vs v))
    (go places (octets_of vs) at))
  where
    go : (ps : List FramePlace) (fs : List (List ℕ)) → AreAt i before ps fs →
        AreAt i before (ps ++ p ∷ []) (fs ++ v.items ∷ [])
    go [] [] h = (one, tt)
    go (q ∷ ps) (f ∷ fs) h = (h.0, go ps fs h.1)
    go [] (f ∷ fs) h = absurd h
    go (q ∷ ps) [] h = absurd h

-- one that isn't there
pub one_unwritten : (i : ℕ) (before : List MachineReply) (places : List FramePlace) (k : ℕ) (p : FramePlace) →
    slice_get places k ≡ Some p → frame_in i (slice_get before p.event) p.frame ≡ None →
    IsOneUnwritten before i places
one_unwritten i before [] k p at none = absurd (cc)
one_unwritten i before (q ∷ places) zero p at none =
    let same : p ≡ q = cc at in
    inl (subst (λ (x : FramePlace). frame_in i (slice_get before x.event) x.frame ≡ None) same none)
one_unwritten i before (q ∷ places) (suc k) p at none = inr (one_unwritten i before places k p at none)

-- No frame was heard yet.
pub heard_none : (cluster : ℕ) (old : Option Heap) → Hears cluster old [] None old
heard_none cluster old = record { came = []; takes = refl; enough = tt; is = refl }

-- One more is heard.
pub heard_more : (cluster : ℕ) (old mid new : Option Heap) (vs all : List (Vec ℕ Global)) (v : Vec ℕ Global)
    (o p : Option (Event OpValue)) → all ≡ vs ++ v ∷ [] → Hears cluster old (octets_of vs) o mid →
    HearsOne cluster mid v.items p new → Hears cluster old (octets_of all) p new
heard_more cluster old mid new vs all v o p is all_of one =
    subst (λ (fs : List (List ℕ)). Hears cluster old fs p new) (sym (ap octets_of is ∙ octets_more vs v)) (record {
      came = all_of.came ++ one.came ∷ [];
      takes = takes_more cluster old mid new (octets_of vs) v.items all_of.came one.came all_of.takes one.takes;
      enough = all_more (λ (r : Result Came WireError). r ≢ Err NoMemory) all_of.came one.came all_of.enough
          one.enough;
      is = one.is ∙ sym (last_more None all_of.came one.came);
    })

-- The frames of a message give it.

-- a message has a frame
pieces_there : (cluster sender number : ℕ) (m : PeerMessage OpValue) (octets : List ℕ) → IsSaying m octets →
    ArePartsOf cluster sender number octets [] → ⊥
pieces_there cluster sender number m octets says parts = go parts.pieces parts.joined parts.spelled
  where
    go : (pieces : List (List ℕ)) → concat pieces ≡ octets →
        [] ≡ parts_from cluster sender number (length pieces) 0 pieces → ⊥
    go [] joined spelled = absurd (cc (joined, says.spelled))
    go (p ∷ ps) joined spelled = absurd (cc spelled)

frame_there : (cluster sender number : ℕ) (m : PeerMessage OpValue) → TellMessage cluster sender number m [] → ⊥
frame_there cluster sender number m (inl t) = absurd (cc (t.1))
frame_there cluster sender number m (inr t) = pieces_there cluster sender number m t.0 t.1 t.2

-- and the last of its frames gives it
pub last_is : (cluster sender number : ℕ) (m : PeerMessage OpValue) (o : Option (Event OpValue))
    (frames : List (List ℕ)) → TellMessage cluster sender number m frames →
    last_event o (message_at_last sender m frames) ≡ Some (event.Message sender m)
last_is cluster sender number m o [] tell = absurd (frame_there cluster sender number m tell)
last_is cluster sender number m o (f ∷ fs) tell = go o f fs
  where
    go : (p : Option (Event OpValue)) (g : List ℕ) (gs : List (List ℕ)) →
        last_event p (message_at_last sender m (g ∷ gs)) ≡ Some (event.Message sender m)
    go p g [] = refl
    go p g (h ∷ hs) = go None h hs

module _ (law : FramesGiveMessage) (cluster : ℕ) where
  -- whatever was gathered before
  frames_come : (number : ℕ) (m : Message OpValue) (frames : List (List ℕ)) (o : Option (Event OpValue)) →
      number < 2 ^ 64 → TellMessage cluster m.from number m.body frames → IsGathered cluster frames o →
      o ≡ Some (event.Message m.from m.body)
  frames_come number m frames o small tell g =
      let given = law cluster m.from number m.body frames g.old g.new g.hears.came g.cluster_is small tell
      g.hears.takes g.hears.enough in
      g.hears.is ∙ ap (λ (rs : List (Result Came WireError)). last_event None rs) given.0
      ∙ last_is cluster m.from number m.body None frames tell

  module _ (before : List MachineReply) (i at : ℕ) (framed : AreFramed cluster before) where
    -- what comes of the frames of a reply
    shown_come : (o : Option MachineReply) (p : Option (Event OpValue)) → slice_get before at ≡ o → at < 2 ^ 64 →
        ComesOf cluster (frames_in i o) p → ((e : Event OpValue) → p ≡ Some e → IsHeard i (message_framed before at) e)
        × (p ≡ None → (m : Message OpValue) → message_framed before at ≡ Some m → m.to ≢ i)
    shown_come None p q small come =
        (λ e k. absurd (cc (k, come)), λ k m h. absurd (cc (h, ap (message_written before) q)))
    shown_come (Some (reply.Written place to frames)) p q small come = by (to == i) refl come
      where
        f : IsFramed cluster at to (message_at before place) (octets_of frames.items)
        f = framed at place to frames q

        there : message_framed before at ≡ Some f.message
        there = ap (message_written before) q ∙ f.there

        by : (b : Bool) → (to == i) ≡ b → ComesOf cluster (cond b (Some (octets_of frames.items)) None) p →
            ((e : Event OpValue) → p ≡ Some e → IsHeard i (message_framed before at) e)
            × (p ≡ None → (m : Message OpValue) → message_framed before at ≡ Some m → m.to ≢ i)
        by true is g =
            let came : p ≡ Some (event.Message f.message.from f.message.body) = frames_come at f.message
            (octets_of frames.items) p small f.tell g in (
              λ e k. record {
                message = f.message;
                shown = there;
                to = sym f.receiver ∙ eqb-true to i is;
                is = cc (came, k);
              },
              λ k. absurd (cc (came, k)),
            )
        by false is none = (
          λ e k. absurd (cc (k, none)),
          λ k m h own.
              let same : f.message ≡ m = cc (there, h) in
              true≢false (sym (eq-eqb to i (f.receiver ∙ ap (λ (x : Message OpValue). x.to) same ∙ own)) ∙ is),
        )
    shown_come (Some _) p q small come =
        (λ e k. absurd (cc (k, come)), λ k m h. absurd (cc (h, ap (message_written before) q)))

  -- What comes of frames is the message that they were written of.
  pub frames_heard : (before : List MachineReply) (i at : ℕ) (e : Event OpValue) → AreFramed cluster before →
      FramesCome cluster before i at (Some e) → IsHeard i (message_framed before at) e
  frames_heard before i at e framed come = (shown_come before i at framed (slice_get before at) (Some e) refl come.0
      come.1).0 e refl

  -- Nothing comes only where none were written for the replica.
  pub frames_missing : (before : List MachineReply) (i at : ℕ) → AreFramed cluster before →
      FramesCome cluster before i at None → (m : Message OpValue) → message_framed before at ≡ Some m → m.to ≢ i
  frames_missing before i at framed come = (shown_come before i at framed (slice_get before at) None refl come.0
      come.1).1 refl

-- A message that was written as frames was sent.
pub framed_sent : (before : List MachineReply) (w : World OpValue) (at : ℕ) (m : Message OpValue) → AreSent before w →
    message_framed before at ≡ Some m → (k : ℕ) × (sent_as k w.messages ≡ Some m)
framed_sent before w at m sent = go (slice_get before at)
  where
    go : (o : Option MachineReply) → message_written before o ≡ Some m → (k : ℕ)
        × (sent_as k w.messages ≡ Some m)
    go (Some (reply.Written place to frames)) h = sent place m h
    go _ h = absurd (cc)
