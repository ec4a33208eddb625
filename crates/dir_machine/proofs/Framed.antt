-- Frames that a schedule shows tell the message at their place.
use Rattle.std.proofs.Common.{◌≡◌, ℕ, zero, suc, ◌+◌, Bool, List, [], ◌∷◌, ◌++◌, length, Option, Some, None, Vec, slice_get, refl, sym, ap, ◌∙◌, subst, arith, length-append, append_assoc}
use Rattle.std.specs.Global.{Global}
use Rattle.state_machine.specs.dir_store.ldap_dn.Names.{RdnModel}
use Rattle.state_machine.specs.dir_store.ldap_op.Values.{OpValue}
use Rattle.state_machine.specs.dir_store.ldap_schema.Schema.{SchemaModel}
use Rattle.vr_world.specs.World.{World, run}
use Rattle.vr_world.specs.declared.events.WorldEvent.{WorldEvent}
use Rattle.vr_world.specs.declared.words.Message.{Message}
use Rattle.dir_machine.specs.Happening.{HappenInTurn, MayHappen}
use Rattle.dir_machine.specs.Shown.{message_at, message_shown, octets_of}
use Rattle.dir_machine.specs.private.Running.{AreFramed, IsFramed}
use Rattle.dir_machine.specs.declared.events.MachineEvent.{MachineEvent}
use Rattle.dir_machine.specs.declared.events.MachineEvent.TheVariants as event
use Rattle.dir_machine.specs.declared.events.Place.{Place}
use Rattle.dir_machine.specs.declared.replies.MachineReply.{MachineReply}
use Rattle.dir_machine.specs.declared.replies.MachineReply.TheVariants as reply

-- what is found in a list is found in a longer one
get_longer : {A : Type 0} (xs ys : List A) (k : ℕ) (x : A) → slice_get xs k ≡ Some x → slice_get (xs ++ ys) k ≡ Some x
get_longer [] ys k x h = absurd (cc)
get_longer (z ∷ xs) ys zero x h = h
get_longer (z ∷ xs) ys (suc k) x h = get_longer xs ys k x h

-- a message keeps its place as more is shown
message_longer : (shown more : List MachineReply) (place : Place) (m : Message OpValue) → message_at shown place ≡
    Some m → message_at (shown ++ more) place ≡ Some m
message_longer shown more place m = go (slice_get shown place.event) refl
  where
    go : (o : Option MachineReply) → slice_get shown place.event ≡ o → message_shown o place.part place.send ≡ Some m →
        message_at (shown ++ more) place ≡ Some m
    go None e h = absurd (cc)
    go (Some x) e h = ap (λ (o : Option MachineReply). message_shown o place.part place.send)
        (get_longer shown more place.event x e) ∙ h

-- so do frames tell it
framed_longer : (cluster number to : ℕ) (shown more : List MachineReply) (place : Place) (frames : List (List ℕ)) →
    IsFramed cluster number to (message_at shown place) frames → IsFramed cluster number to
    (message_at (shown ++ more) place) frames
framed_longer cluster number to shown more place frames f = record {
  message = f.message;
  there = message_longer shown more place f.message f.there;
  receiver = f.receiver;
  tell = f.tell;
}

module _ (s : SchemaModel) (root : List RdnModel) (cluster n : ℕ) (journaled : Bool) where
  -- one event of the schedule
  may_frame : (before : List MachineReply) (ev : MachineEvent) (h : List (WorldEvent OpValue)) (w : World OpValue)
      (place : Place) (to : ℕ) (frames : Vec (Vec ℕ Global) Global) →
      MayHappen s root cluster n journaled before ev (reply.Written place to frames) h w →
      IsFramed cluster (length before) to (message_at before place) (octets_of frames.items)
  may_frame before (event.Write place sizes) h w at to frames may = record {
    message = may.1.1;
    there = ap (λ (p : Place). message_at before p) may.1.0 ∙ may.1.2;
    receiver = may.1.3;
    tell = may.1.4.tell;
  }
  may_frame before _ h w at to frames may = absurd may

  -- one after another
  turn_framed : (before : List MachineReply) (es : List MachineEvent) (xs : List MachineReply)
      (hs : List (List (WorldEvent OpValue))) (w : World OpValue) → HappenInTurn s root cluster n journaled before es
      xs hs w → (k number : ℕ) → number ≡ length before + k → (place : Place) (to : ℕ)
      (frames : Vec (Vec ℕ Global) Global) → slice_get xs k ≡ Some (reply.Written place to frames) →
      IsFramed cluster number to (message_at (before ++ xs) place) (octets_of frames.items)
  turn_framed before [] [] [] w t k number is place to frames h = absurd (cc)
  turn_framed before (ev ∷ es) (x ∷ xs) (hap ∷ hs) w t zero number is place to frames h =
      let same : x ≡ reply.Written place to frames = cc h in
      let here : number ≡ length before = omega (arith, is) in
      subst (λ (j : ℕ). IsFramed cluster j to (message_at (before ++ x ∷ xs) place) (octets_of frames.items)) (sym here)
      (framed_longer cluster (length before) to before (x ∷ xs) place (octets_of frames.items)
      (may_frame before ev hap w place to frames
      (subst (λ (y : MachineReply). MayHappen s root cluster n journaled before ev y hap w) same t.0)))
  turn_framed before (ev ∷ es) (x ∷ xs) (hap ∷ hs) w t (suc k) number is place to frames h =
      subst (λ (l : List MachineReply). IsFramed cluster number to (message_at l place) (octets_of frames.items))
      (append_assoc before (x ∷ []) xs)
      (turn_framed (before ++ x ∷ []) es xs hs (run n hap w) t.1 k number
      (omega (arith, is, length-append before (x ∷ []))) place to frames h)
  turn_framed before [] [] (hap ∷ hs) w t k number is place to frames h = absurd t
  turn_framed before [] (x ∷ xs) hs w t k number is place to frames h = absurd t
  turn_framed before (ev ∷ es) [] hs w t k number is place to frames h = absurd t
  turn_framed before (ev ∷ es) (x ∷ xs) [] w t k number is place to frames h = absurd t

  -- All frames of a schedule.
  pub all_framed : (es : List MachineEvent) (xs : List MachineReply) (hs : List (List (WorldEvent OpValue)))
      (w : World OpValue) → HappenInTurn s root cluster n journaled [] es xs hs w → AreFramed cluster xs
  all_framed es xs hs w t e place to frames h = turn_framed [] es xs hs w t e e (omega arith) place to frames h
