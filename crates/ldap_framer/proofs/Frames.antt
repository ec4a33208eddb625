-- What a header says of the octets behind it, and how a stream goes on.
use Rattle.std.proofs.Common.{◌≡◌, ℕ, ◌+◌, ◌-◌, ◌%◌, ◌≤◌, List, [], ◌∷◌, ◌++◌, length, take, drop, map, refl, sym, ap, subst, ◌∙◌, inl, inr, append_assoc, arith}
use Rattle.std.proofs.lemmas.List.{append-nil, drop_at, length-append, length-take-le, map_push, take-append-drop}
use Rattle.std.proofs.Math.Seq.{take-append-add}
use Rattle.ldap_msg.specs.ldap_ber.Element.{IsElement, IsLength}
use Rattle.ldap_msg.specs.Messages.{MessageValue}
use Rattle.ldap_msg.proofs.ldap_ber.ElementLemmas.{second}
use Rattle.ldap_msg.specs.ldap_ber.Header.{IsHeader, IsHeaderFront}
use Rattle.ldap_msg.specs.ldap_ber.Reading.{IsFault as IsBerFault}
use Rattle.ldap_msg.specs.ldap_ber.declared.fault.BerFault.{BerFault}
use Rattle.ldap_msg.specs.ldap_ber.declared.fault.BerFault.TheVariants.{HighTag, Short, Indefinite, LengthTooLong}
use Rattle.ldap_msg.specs.ldap_ber.declared.message_fault.MsgFault.{MsgFault}
use Rattle.ldap_msg.specs.Limits.{IsFault}
use Rattle.ldap_msg.specs.View.{view}
use Rattle.ldap_msg.specs.declared.message.Message.{Message}
use Rattle.ldap_framer.specs.private.Fronts.{BeginsFrame}
use Rattle.ldap_framer.specs.Stream.{IsFrame, IsWhole, IsAwaited, BeginsNoFrame, HasBadFrame, Ending, awaits, EndsIn, Reads}

-- ---- how a stream goes on

pub goes_on : (stream piece rest : List ℕ) (ms ns : List MessageValue) (ending : Ending) →
    Reads stream ms (awaits rest) → Reads (rest ++ piece) ns ending → Reads (stream ++ piece) (ms ++ ns) ending
goes_on stream piece rest [] ns ending p q = subst (λ (o : List ℕ). Reads (o ++ piece) ns ending) (sym p.0) q
goes_on stream piece rest (m ∷ ms) ns ending p q = record {
  frame = p.frame;
  rest = p.rest ++ piece;
  whole = ap (λ (o : List ℕ). o ++ piece) p.whole ∙ append_assoc p.frame p.rest piece;
  is_whole = p.is_whole;
  next = goes_on p.rest piece rest ms ns ending p.next q;
}

-- ---- what stands at the front

-- a header of octets that begin as a frame is one of a frame
first_is : (o h rest : List ℕ) (f n : ℕ) → BeginsFrame o → IsHeader h f n → o ≡ h ++ rest → f ≡ 48
first_is [] h rest f n begins is e = absurd begins
first_is (a ∷ bs) h rest f n begins is e =
    let w : a ∷ bs ≡ (f ∷ is.len_octets) ++ rest = e ∙ ap (λ (s : List ℕ). s ++ rest) is.whole in
    let same : f ≡ a = cc in
    same ∙ begins

of_frame : (o h rest : List ℕ) (f n : ℕ) → BeginsFrame o → IsHeader h f n → o ≡ h ++ rest → IsHeader h 48 n
of_frame o h rest f n begins is e = subst (λ (k : ℕ). IsHeader h k n) (first_is o h rest f n begins is e) is

-- the content behind a header makes a whole element with it
pub framed_by : (h content : List ℕ) (n : ℕ) → IsHeader h 48 n → length content ≡ n → IsElement (h ++ content) 48
    content
framed_by h content n is e = record {
  low_tag = is.low_tag;
  len_octets = is.len_octets;
  len = subst (IsLength is.len_octets) (sym e) is.len;
  whole = ap (λ (s : List ℕ). s ++ content) is.whole;
}

pub framed : (o h rest : List ℕ) (f n : ℕ) → BeginsFrame o → IsHeader h f n → o ≡ h ++ rest →
    length h + n ≤ length o → IsFrame (take (length h + n) o)
framed o h rest f n begins is e long =
    let enough : n ≤ length rest = omega (arith, ap length e, length-append h rest) in
    let content = take n rest in
    let same : take (length h + n) o ≡ h ++ content = ap (take (length h + n)) e ∙ take-append-add h rest n in (
      content,
      subst (λ (s : List ℕ). IsElement s 48 content) (sym same) (framed_by h content n
          (of_frame o h rest f n begins is e) (length-take-le n rest enough)),
    )

pub bad_frame : (f : MsgFault) (o : List ℕ) (size : ℕ) → size ≤ length o → size ≤ 4194304 → IsFrame (take size o) →
    IsFault f (take size o) → HasBadFrame f o
bad_frame f o size within small is fault = record {
  frame = take size o;
  rest = drop size o;
  is_frame = is;
  whole = sym (take-append-drop size o);
  small = omega (arith, length-take-le size o within);
  is_fault = fault;
}

pub awaited_short : (o : List ℕ) → BeginsFrame o → IsHeaderFront o → IsAwaited o
awaited_short [] begins front = tt
awaited_short (a ∷ bs) begins front = (begins, inl front)

-- what a header's fault says, but that it is short: no frame begins so
pub no_frame : (f : BerFault) (o : List ℕ) → (f ≡ Short → ⊥) → IsBerFault f o → BeginsNoFrame o
no_frame Short o other h more frame after is e = other refl
no_frame HighTag [] other h more frame after is e = h
no_frame Indefinite [] other h more frame after is e = h
no_frame LengthTooLong [] other h more frame after is e = h
no_frame Indefinite (a ∷ []) other h more frame after is e = h
no_frame LengthTooLong (a ∷ []) other h more frame after is e = h
no_frame HighTag (a ∷ bs) other h more frame after is e =
    let z : a ∷ (bs ++ more) ≡ 48 ∷ ((is.1.len_octets ++ is.0) ++ after) = e ∙ ap (λ (x : List ℕ). x ++ after)
    is.1.whole in
    let same : a ≡ 48 = cc in
    let tag : 48 % 32 ≡ 31 = ap (λ (k : ℕ). k % 32) (sym same) ∙ h in
    omega arith
no_frame Indefinite (a ∷ b ∷ bs) other h more frame after is e =
    let z : a ∷ b ∷ (bs ++ more) ≡ 48 ∷ (is.1.len_octets ++ (is.0 ++ after)) = e ∙ ap (λ (x : List ℕ). x ++ after)
    is.1.whole ∙ ap (λ (x : List ℕ). 48 ∷ x) (append_assoc is.1.len_octets is.0 after) in
    second b (bs ++ more) is.1.len_octets (is.0 ++ after) (length is.0) is.1.len (cc) (inl h.1)
no_frame LengthTooLong (a ∷ b ∷ bs) other h more frame after is e =
    let z : a ∷ b ∷ (bs ++ more) ≡ 48 ∷ (is.1.len_octets ++ (is.0 ++ after)) = e ∙ ap (λ (x : List ℕ). x ++ after)
    is.1.whole ∙ ap (λ (x : List ℕ). 48 ∷ x) (append_assoc is.1.len_octets is.0 after) in
    second b (bs ++ more) is.1.len_octets (is.0 ++ after) (length is.0) is.1.len (cc) (inr h.1)

-- ---- the messages so far

pub record SoFar (stream : List ℕ) (done : List MessageValue) (rest : List ℕ) : Type 0 where
  pub front : List ℕ
  pub whole : stream ≡ front ++ rest
  pub forth : (others : List MessageValue) (ending : Ending) → Reads rest others ending →
      Reads stream (done ++ others) ending

pub begins : (stream : List ℕ) → SoFar stream [] stream
begins stream = record { front = []; whole = refl; forth = λ others ending h. h }

more_done : (stream rest : List ℕ) (done : List MessageValue) (m : MessageValue) (size : ℕ) → SoFar stream done rest →
    IsWhole (take size rest) m → SoFar stream (done ++ m ∷ []) (drop size rest)
more_done stream rest done m size so_far is = record {
  front = so_far.front ++ take size rest;
  whole = so_far.whole ∙ ap (λ (s : List ℕ). so_far.front ++ s) (sym (take-append-drop size rest))
      ∙ sym (append_assoc so_far.front (take size rest) (drop size rest));
  forth = λ others ending h. subst (λ (ms : List MessageValue). Reads stream ms ending)
      (sym (append_assoc done (m ∷ []) others))
      (so_far.forth (m ∷ others) ending (record {
        frame = take size rest;
        rest = drop size rest;
        whole =
            sym (take-append-drop size rest);
        is_whole = is;
        next = h;
      }));
}

pub one_more : (stream rest after : List ℕ) (old new : List Message) (m : Message) (size : ℕ) →
    SoFar stream (map view old) rest → new ≡ old ++ m ∷ [] → IsWhole (take size rest) (view m) →
    after ≡ drop size rest → SoFar stream (map view new) after
one_more stream rest after old new m size so_far pushed is e =
    let done : map view new ≡ map view old ++ view m ∷ [] = ap (map view) pushed ∙ map_push view old m in
    subst (λ (x : List ℕ). SoFar stream (map view new) x) (sym e)
    (subst (λ (ms : List MessageValue). SoFar stream ms (drop size rest)) (sym done)
    (more_done stream rest (map view old) (view m) size so_far is))

-- what is left is behind what was taken
left_is : (stream rest : List ℕ) (done : List MessageValue) → SoFar stream done rest →
    drop (length stream - length rest) stream ≡ rest
left_is stream rest done so_far = ap (drop (length stream - length rest)) so_far.whole ∙ drop_at so_far.front rest _
    (omega (arith, ap length so_far.whole, length-append so_far.front rest))

pub ends : (stream rest : List ℕ) (done : List MessageValue) (ending : Ending) → SoFar stream done rest →
    EndsIn rest ending → Reads stream done ending
ends stream rest done ending so_far h = subst (λ (ms : List MessageValue). Reads stream ms ending) (append-nil done)
    (so_far.forth [] ending h)

pub ends_awaited : (stream rest : List ℕ) (done : List MessageValue) → SoFar stream done rest → IsAwaited rest →
    Reads stream done (awaits (drop (length stream - length rest) stream))
ends_awaited stream rest done so_far awaited = ends stream rest done
    (awaits (drop (length stream - length rest) stream)) so_far (sym (left_is stream rest done so_far), awaited)
