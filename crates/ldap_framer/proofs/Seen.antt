-- What a framer has seen, with one more piece, and with one message handed out.
use Rattle.std.proofs.Common.{◌≡◌, ℕ, List, [], ◌∷◌, ◌++◌, Option, Some, None, Result, Ok, Err, refl, sym, ap, subst, ◌∙◌, ◌⊎◌, inl, inr, append_assoc}
use Rattle.std.specs.Prelude.{OnOk, IfErr}
use Rattle.ldap_msg.specs.ldap_ber.declared.message_fault.MsgFault.{MsgFault}
use Rattle.ldap_msg.specs.ldap_ber.declared.message_fault.MsgFault.TheVariants.{TooLarge, NotAMessage, TooDeep, TooManyItems, NoMemory}
use Rattle.ldap_msg.specs.Messages.{MessageValue}
use Rattle.ldap_framer.specs.Stream.{BeginsNoFrame, HasBadFrame, IsStop, awaits, stops, Reads}
use Rattle.ldap_framer.specs.Framed.{Framed, ending_of, HasSeen, Takes, IsFeedFault}
use Rattle.ldap_framer.specs.declared.fault.FrameFault.{FrameFault}
use Rattle.ldap_framer.specs.declared.fault.FrameFault.TheVariants.{Refused, Failed, NoMemory as NoRoom}
use Rattle.ldap_framer.proofs.Frames.{goes_on}

-- ---- one more piece

pub took : (old new : Framed) (piece stream : List ℕ) (handed : List MessageValue) → Takes old piece new →
    HasSeen old stream handed → HasSeen new (stream ++ piece) handed
took old new piece stream handed t seen =
    let before : Reads stream (handed ++ old.ready) (awaits old.rest) = subst (λ (f : Option MsgFault). Reads stream
    (handed ++ old.ready) (ending_of f old.rest)) t.was_whole seen in
    let same : (handed ++ old.ready) ++ t.messages ≡ handed ++ new.ready = append_assoc handed old.ready t.messages
    ∙ ap (λ (l : List MessageValue). handed ++ l) (sym t.ready) in
    subst (λ (l : List MessageValue). Reads (stream ++ piece) l (ending_of new.fault new.rest)) same
    (goes_on stream piece old.rest (handed ++ old.ready) t.messages (ending_of new.fault new.rest) before t.reads)

-- ---- a stream that was stopped

bad_longer : (f : MsgFault) (octets piece : List ℕ) → HasBadFrame f octets → HasBadFrame f (octets ++ piece)
bad_longer f octets piece h = record {
  frame = h.frame;
  rest = h.rest ++ piece;
  is_frame = h.is_frame;
  whole = ap (λ (o : List ℕ). o ++ piece) h.whole ∙ append_assoc h.frame h.rest piece;
  small = h.small;
  is_fault = h.is_fault;
}

no_frame_longer : (octets piece : List ℕ) → BeginsNoFrame octets → BeginsNoFrame (octets ++ piece)
no_frame_longer octets piece h more frame after is e = h (piece ++ more) frame after is
    (sym (append_assoc octets piece more) ∙ e)

stop_longer : (f : MsgFault) (octets piece : List ℕ) → IsStop f octets → IsStop f (octets ++ piece)
stop_longer TooLarge octets piece h = record {
  header = h.header;
  n = h.n;
  rest = h.rest ++ piece;
  is_header = h.is_header;
  whole = ap (λ (o : List ℕ). o ++ piece) h.whole ∙ append_assoc h.header h.rest piece;
  large = h.large;
}
stop_longer NotAMessage octets piece (inl h) = inl (no_frame_longer octets piece h)
stop_longer NotAMessage octets piece (inr h) = inr (bad_longer NotAMessage octets piece h)
stop_longer TooDeep octets piece h = bad_longer TooDeep octets piece h
stop_longer TooManyItems octets piece h = bad_longer TooManyItems octets piece h
stop_longer NoMemory octets piece h = h

stays : (f : MsgFault) (stream piece : List ℕ) (ms : List MessageValue) → Reads stream ms (stops f) →
    Reads (stream ++ piece) ms (stops f)
stays f stream piece [] h = stop_longer f stream piece h
stays f stream piece (m ∷ ms) h = record {
  frame = h.frame;
  rest = h.rest ++ piece;
  whole = ap (λ (o : List ℕ). o ++ piece) h.whole ∙ append_assoc h.frame h.rest piece;
  is_whole = h.is_whole;
  next = stays f h.rest piece ms h.next;
}

still : (fault : Option MsgFault) (rest stream piece : List ℕ) (ms : List MessageValue) → (fault ≡ None → ⊥) →
    Reads stream ms (ending_of fault rest) → Reads (stream ++ piece) ms (ending_of fault rest)
still None rest stream piece ms some h = absurd (some refl)
still (Some f) rest stream piece ms some h = stays f stream piece ms h

pub failed : (old new : Framed) (piece stream : List ℕ) (handed : List MessageValue) → (old.fault ≡ None → ⊥) →
    new ≡ old → HasSeen old stream handed → HasSeen new (stream ++ piece) handed
failed old new piece stream handed some same seen = subst (λ (f : Framed). HasSeen f (stream ++ piece) handed)
    (sym same) (still old.fault old.rest stream piece (handed ++ old.ready) some seen)

-- ---- what a call answers

pub seen_ok : {T : Type 0} (r : Result T FrameFault) (old new : Framed) (piece stream : List ℕ)
    (handed : List MessageValue) → OnOk r (Takes old piece new) → HasSeen old stream handed →
    OnOk r (HasSeen new (stream ++ piece) handed)
seen_ok (Ok v) old new piece stream handed t seen = took old new piece stream handed t seen
seen_ok (Err e) old new piece stream handed t seen = tt

pub seen_err : {T : Type 0} (r : Result T FrameFault) (old new : Framed) (piece stream : List ℕ)
    (handed : List MessageValue) → IfErr r (λ e. IsFeedFault e old piece new) → HasSeen old stream handed
    → IfErr r (λ e. (e ≡ NoRoom) ⊎ HasSeen new (stream ++ piece) handed)
seen_err (Ok v) old new piece stream handed h seen = tt
seen_err (Err (Refused f)) old new piece stream handed h seen = inr (took old new piece stream handed h.0 seen)
seen_err (Err Failed) old new piece stream handed h seen = inr (failed old new piece stream handed h.0 h.1 seen)
seen_err (Err NoRoom) old new piece stream handed h seen = inl refl

-- ---- one message handed out
