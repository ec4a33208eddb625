-- What a session has written when it goes on or ends.
use Rattle.std.proofs.Common.{◌≡◌, ◌⊎◌, inl, inr, ℕ, List, [], ◌∷◌, ◌++◌, true, false, Option, None, Some, refl, ap, sym, subst, ◌∙◌, append_assoc, append-nil}
use Rattle.std.specs.Io.KnownBytes.{Appends}
use Rattle.std.proofs.KnownBytes.{Appends-nil, Appends-trans}
use Rattle.session_handler.specs.ldap_msg.Messages.{MessageValue}
use Rattle.ldap_framer.specs.Framed.{ending_of}
use Rattle.session_handler.specs.directory_api.Talk.{Exchange}
use Rattle.session_handler.specs.Responses.{notice}
use Rattle.session_handler.specs.Session.{ConfigValue, Reaction}
use Rattle.session_handler.specs.declared.answered.Answered.{Answered as AnsweredValue}
use Rattle.session_handler.specs.declared.answered.Next.{Next}
use Rattle.session_handler.specs.declared.answered.Next.TheVariants.{GoesOn, Unbound as UnboundNext, Disconnected as DisconnectedNext}
use Rattle.ldap_session.specs.Octets.{joined, octets_of, IsFront, HasWritten}
use Rattle.ldap_session.specs.View.{SessionValue, ConversationValue}
use Rattle.ldap_session.specs.Progress.{TakesNext, IsWritten, IsIdle, Reached}
use Rattle.ldap_session.specs.Serving.{IsStopped, Ends, IsCaughtUp}
use Rattle.ldap_session.specs.Conversing.{IsLast, TakesTurn, TakesLast, GivesNotice}
use Rattle.ldap_session.specs.private.Steps.{IsEarly, HasPutLast, HasWorked}
use Rattle.ldap_session.specs.declared.end.SessionEnd.{SessionEnd}
use Rattle.ldap_session.specs.declared.end.SessionEnd.TheVariants.{Unbound, EndOfInput, Truncated, Disconnected, ReadFailed, WriteFailed, NoMemory}
use Rattle.ldap_session.specs.declared.serving.Flow.TheVariants.{Goes, Ends as EndsWith}
use Rattle.ldap_session.proofs.Written.{joined_octets, octets_append}
use Rattle.ldap_session.proofs.Progressed.{reached_more, ends_with, ends_here}

-- a session that has answered some messages, and written so much for them
pub record SoFar {D T : Type 0} (allows : D → Exchange T → D → Type 0) (c : ConfigValue) (old now : D)
    (s t : SessionValue) (output grown : Option (List ℕ)) : Type 0 where
  pub more : List ℕ
  pub appended : Appends output grown more
  pub comes : (first : D) (read written : List ℕ) → Reached octets_of allows c first old s read written →
      Reached octets_of allows c first now t read (written ++ more)

pub begun : {D T : Type 0} (allows : D → Exchange T → D → Type 0) (c : ConfigValue) (d : D) (s : SessionValue)
    (o : Option (List ℕ)) → SoFar allows c d d s s o o
begun allows c d s o = record {
  more = [];
  appended = Appends-nil o;
  comes = λ first read written r. subst (λ (l : List ℕ). Reached octets_of allows c first d s read l)
      (sym (append-nil written)) r;
}

-- the octets of what was answered are those of its messages
pub octets_are : (given : AnsweredValue) (rs : List MessageValue) (next : Next) → IsWritten given rs next →
    joined given.responses ≡ octets_of rs
octets_are given rs next w = ap joined w.octets ∙ joined_octets rs

grown_by : {D T : Type 0} (allows : D → Exchange T → D → Type 0) (c : ConfigValue) (first old now e : D)
    (s0 s t : SessionValue) (o g : Option (List ℕ)) (octets read written : List ℕ) (a : Reaction) →
    (w : SoFar allows c old now s0 s o g) → TakesNext allows c s t now e a → t.state ≡ a.state → a.next ≡ GoesOn →
    octets ≡ octets_of a.responses →
    Reached octets_of allows c first old s0 read written → Reached octets_of allows c first e t read
    (written ++ (w.more ++ octets))
grown_by allows c first old now e s0 s t o g octets read written a w takes state goes is r =
    subst (λ (l : List ℕ). Reached octets_of allows c first e t read l)
    (append_assoc written w.more (octets_of a.responses) ∙ ap (λ (l : List ℕ). written ++ (w.more ++ l)) (sym is))
    (reached_more octets_of octets_append allows c first now e s t read (written ++ w.more) a state goes takes
    (w.comes first read written r))

-- what is written of octets that were kept where nothing was unsent
kept_alone : (old more new taken : List ℕ) → old ≡ [] → new ≡ old ++ more → taken ≡ new → taken ≡ more
kept_alone old more new taken none is all = all ∙ is ∙ ap (λ (l : List ℕ). l ++ more) none

-- a message more is answered, what it is answered with is written, and the session goes on
pub more_answered : {D T : Type 0} (allows : D → Exchange T → D → Type 0) (c : ConfigValue) (old now e : D)
    (s0 : SessionValue) (v w : ConversationValue) (o g h : Option (List ℕ)) →
    SoFar allows c old now s0 v.session o g → v.unsent ≡ [] → TakesTurn allows c v w now e →
    HasWritten g h w.unsent true → SoFar allows c old e s0 w.session o h
more_answered allows c old now e s0 v w o g h so none t put = record {
  more = so.more ++ put.taken;
  appended = Appends-trans o g h so.more put.taken so.appended put.grown;
  comes = λ first read written r.
      grown_by allows c first old now e s0 v.session w.session o g put.taken read written t.reaction so t.takes
      t.state t.goes
      (kept_alone v.unsent (octets_of t.reaction.responses) w.unsent put.taken none t.unsent (put.whole refl)) r;
}

-- all is answered
pub all_answered : {D T : Type 0} (allows : D → Exchange T → D → Type 0) (c : ConfigValue) (old now e : D)
    (s0 s t : SessionValue) (o g : Option (List ℕ)) →
    SoFar allows c old now s0 s o g → IsIdle s t now e × (s.framed.fault ≡ None) → HasWorked allows c old e s0 t o g
    Goes
all_answered allows c old now e s0 s t o g w (idle, fault) = record {
  more = w.more;
  appended = w.appended;
  early = tt;
  comes = λ first read written r. (
    subst (λ (x : SessionValue). Reached octets_of allows c first e x read (written ++ w.more)) (sym idle.same)
        (subst (λ (x : _). Reached octets_of allows c first x s read (written ++ w.more)) (sym idle.untouched)
        (w.comes first read written r)),
    subst (λ (x : SessionValue). IsCaughtUp x) (sym idle.same) (record { none_ready = idle.none; no_fault = fault }),
  );
}

-- a front of what is written further on
front_more : (xs ys more : List ℕ) → IsFront more ys → IsFront (xs ++ more) (xs ++ ys)
front_more xs ys more f = record {
  rest = f.rest;
  is = ap (λ (l : List ℕ). xs ++ l) f.is
      ∙ sym (append_assoc xs more f.rest);
}

-- a front of the responses to a message, behind all responses before it
pub front_of : (shown : List MessageValue → List ℕ) → ((xs ys : List MessageValue) → shown (xs ++ ys) ≡
    shown xs ++ shown ys) → (rs qs : List MessageValue) (written more : List ℕ) →
    written ≡ shown rs → IsFront more (shown qs) → IsFront (written ++ more) (shown (rs ++ qs))
front_of shown append rs qs written more are f =
    subst (λ (l : List ℕ). IsFront (written ++ more) l) (ap (λ (l : List ℕ). l ++ shown qs) are ∙ sym (append rs qs))
    (front_more written (shown qs) more f)

pub no_front : (ys : List ℕ) → IsFront [] ys
no_front ys = record { rest = ys; is = refl }

pub stopped_by : (fault : Option _) (rest : List ℕ) → (fault ≡ None → ⊥) → IsStopped (ending_of fault rest)
stopped_by None rest n = absurd (n refl)
stopped_by (Some fault) rest n = tt

unbound_apart : UnboundNext ≡ DisconnectedNext → ⊥
unbound_apart e = cc

-- all responses to a message, behind all responses before it
all_of : (rs qs : List MessageValue) (written more : List ℕ) → written ≡ octets_of rs → more ≡ octets_of qs →
    written ++ more ≡ octets_of (rs ++ qs)
all_of rs qs written more are is = ap (λ (l : List ℕ). l ++ more) are ∙ ap (λ (l : List ℕ). octets_of rs ++ l) is
    ∙ sym (octets_append rs qs)

-- what is written last, where a message is the last
last_answer : {D T : Type 0} (allows : D → Exchange T → D → Type 0) (c : ConfigValue) (first now e : D)
    (s t : SessionValue) (read written more : List ℕ) (a : Reaction) (end : SessionEnd) →
    TakesNext allows c s t now e a → Reached octets_of allows c first now s read written →
    IsLast end a.next (octets_of a.responses) more → Ends octets_of allows c first e read (written ++ more) end
last_answer allows c first now e s t read written more a Unbound takes r last =
    ends_with octets_of allows c first now e s t read written more a Unbound takes r
    (last.0, all_of r.responses a.responses written more r.written_are last.1)
last_answer allows c first now e s t read written more a Disconnected takes r last =
    ends_with octets_of allows c first now e s t read written more a Disconnected takes r
    (inl (last.0, all_of r.responses a.responses written more r.written_are last.1))
last_answer allows c first now e s t read written more a WriteFailed takes r last =
    ends_with octets_of allows c first now e s t read written more a WriteFailed takes r
    (inl (front_of octets_of octets_append r.responses a.responses written more r.written_are last))
last_answer allows c first now e s t read written more a NoMemory takes r last =
    ends_with octets_of allows c first now e s t read written more a NoMemory takes r
    (inl (front_of octets_of octets_append r.responses a.responses written more r.written_are last))
last_answer allows c first now e s t read written more a EndOfInput takes r last = absurd last
last_answer allows c first now e s t read written more a Truncated takes r last = absurd last
last_answer allows c first now e s t read written more a ReadFailed takes r last = absurd last

-- the same, where what stands next is no message
last_notice : {D T : Type 0} (allows : D → Exchange T → D → Type 0) (c : ConfigValue) (first now : D)
    (s : SessionValue) (read written more : List ℕ) (end : SessionEnd) →
    s.framed.ready ≡ [] → (s.framed.fault ≡ None → ⊥) → Reached octets_of allows c first now s read written →
    IsLast end DisconnectedNext (octets_of (notice ∷ [])) more →
    Ends octets_of allows c first now read (written ++ more) end
last_notice allows c first now s read written more Unbound none fault r last = absurd (unbound_apart (sym last.0))
last_notice allows c first now s read written more Disconnected none fault r last =
    ends_here octets_of allows c first now s read written more Disconnected r
    (inr (
      (refl, none, stopped_by s.framed.fault s.framed.rest fault),
      all_of r.responses (notice ∷
          []) written more r.written_are last.1,
    ))
last_notice allows c first now s read written more WriteFailed none fault r last =
    ends_here octets_of allows c first now s read written more WriteFailed r
    (inr (
      (refl, none, stopped_by s.framed.fault s.framed.rest fault),
      front_of octets_of octets_append r.responses
          (notice ∷ []) written more r.written_are last,
    ))
last_notice allows c first now s read written more NoMemory none fault r last =
    ends_here octets_of allows c first now s read written more NoMemory r
    (inr (
      (refl, none, stopped_by s.framed.fault s.framed.rest fault),
      front_of octets_of octets_append r.responses
          (notice ∷ []) written more r.written_are last,
    ))
last_notice allows c first now s read written more EndOfInput none fault r last = absurd last
last_notice allows c first now s read written more Truncated none fault r last = absurd last
last_notice allows c first now s read written more ReadFailed none fault r last = absurd last

early_last : (end : SessionEnd) (next : Next) (octets more : List ℕ) → IsLast end next octets more →
    IsEarly (EndsWith end)
early_last Unbound next octets more last = tt
early_last Disconnected next octets more last = tt
early_last WriteFailed next octets more last = tt
early_last NoMemory next octets more last = tt
early_last EndOfInput next octets more last = absurd last
early_last Truncated next octets more last = absurd last
early_last ReadFailed next octets more last = absurd last

front_front : (xs ys zs : List ℕ) → IsFront xs ys → IsFront ys zs → IsFront xs zs
front_front xs ys zs p q = record {
  rest = p.rest ++ q.rest;
  is = q.is ∙ ap (λ (l : List ℕ). l ++ q.rest) p.is ∙ append_assoc xs p.rest q.rest;
}

whole_is_front : (xs ys : List ℕ) → xs ≡ ys → IsFront xs ys
whole_is_front xs ys e = record { rest = []; is = sym e ∙ sym (append-nil xs) }

-- what is kept last is a front of what is due
kept_front : (end : SessionEnd) (next : Next) (octets more : List ℕ) → IsLast end next octets more → IsFront more octets
kept_front Unbound next octets more last = whole_is_front more octets last.1
kept_front Disconnected next octets more last = whole_is_front more octets last.1
kept_front WriteFailed next octets more last = last
kept_front NoMemory next octets more last = last
kept_front EndOfInput next octets more last = absurd last
kept_front Truncated next octets more last = absurd last
kept_front ReadFailed next octets more last = absurd last

-- how a session ends of which what is kept last is written, or a front of that
ended_as : (end flow_end : SessionEnd) (next : Next) (octets more kept : List ℕ) → IsLast end next octets kept →
    ((flow_end ≡ end) × (more ≡ kept)) ⊎ ((flow_end ≡ WriteFailed) × IsFront more kept) → IsLast flow_end next octets
    more
ended_as end flow_end next octets more kept last (inl (is, all)) =
    subst (λ (x : SessionEnd). IsLast x next octets more) (sym is) (subst (λ (l : List ℕ). IsLast end next octets l)
    (sym all) last)
ended_as end flow_end next octets more kept last (inr (failed, front)) =
    subst (λ (x : SessionEnd). IsLast x next octets more) (sym failed) (front_front more kept octets front
    (kept_front end next octets kept last))

kept_as : (flow_end end : SessionEnd) (old more new taken : List ℕ) → old ≡ [] → new ≡ old ++ more →
    ((flow_end ≡ end) × (taken ≡ new)) ⊎ ((flow_end ≡ WriteFailed) × IsFront taken new) →
    ((flow_end ≡ end) × (taken ≡ more)) ⊎ ((flow_end ≡ WriteFailed) × IsFront taken more)
kept_as flow_end end old more new taken none is (inl (ended, all)) =
    inl (ended, kept_alone old more new taken none is all)
kept_as flow_end end old more new taken none is (inr (failed, front)) =
    inr (failed, subst (λ (l : List ℕ). IsFront taken l) (is ∙ ap (λ (l : List ℕ). l ++ more) none) front)

-- the last word is written, or a front of it, and the session ends
pub put_last : {D T : Type 0} (allows : D → Exchange T → D → Type 0) (c : ConfigValue) (old now e : D)
    (s0 : SessionValue) (v w : ConversationValue) (o g h : Option (List ℕ)) (end flow_end : SessionEnd) →
    SoFar allows c old now s0 v.session o g → v.unsent ≡ [] → TakesLast allows c v w now e end
    ⊎ GivesNotice v w now e end → HasPutLast g h w.unsent end flow_end →
    HasWorked allows c old e s0 w.session o h (EndsWith flow_end)
put_last allows c old now e s0 v w o g h end flow_end so none (inl t) put =
    let last = ended_as end flow_end t.reaction.next (octets_of t.reaction.responses) put.more t.ends.more t.ends.last
    (kept_as flow_end end v.unsent t.ends.more w.unsent put.more none t.ends.unsent put.put) in
    record {
      more = so.more ++ put.more;
      appended = Appends-trans o g h so.more put.more so.appended put.appended;
      early = early_last flow_end t.reaction.next (octets_of t.reaction.responses) put.more last;
      comes = λ first read written r.
          subst (λ (l : List ℕ). Ends octets_of allows c first e read l flow_end)
          (append_assoc written so.more put.more)
          (last_answer allows c first now e v.session w.session read (written ++ so.more) put.more t.reaction flow_end
          t.takes (so.comes first read written r) last);
    }
put_last allows c old now e s0 v w o g h end flow_end so none (inr n) put =
    let last = ended_as end flow_end DisconnectedNext (octets_of (notice ∷ [])) put.more n.ends.more n.ends.last
    (kept_as flow_end end v.unsent n.ends.more w.unsent put.more none n.ends.unsent put.put) in
    record {
      more = so.more ++ put.more;
      appended = Appends-trans o g h so.more put.more so.appended put.appended;
      early = early_last flow_end DisconnectedNext (octets_of (notice ∷ [])) put.more last;
      comes = λ first read written r.
          subst (λ (x : _). Ends octets_of allows c first x read (written ++ (so.more ++ put.more)) flow_end)
          (sym n.idle.untouched)
          (subst (λ (l : List ℕ). Ends octets_of allows c first now read l flow_end)
          (append_assoc written so.more put.more)
          (last_notice allows c first now v.session read (written ++ so.more) put.more flow_end n.idle.none n.fault
          (so.comes first read written r) last));
    }

-- a message is answered, and what it is answered with can't be written
pub put_failed : {D T : Type 0} (allows : D → Exchange T → D → Type 0) (c : ConfigValue) (old now e : D)
    (s0 : SessionValue) (v w : ConversationValue) (o g h : Option (List ℕ)) →
    SoFar allows c old now s0 v.session o g → v.unsent ≡ [] → TakesTurn allows c v w now e →
    HasWritten g h w.unsent false → HasWorked allows c old e s0 w.session o h (EndsWith WriteFailed)
put_failed allows c old now e s0 v w o g h so none t put = record {
  more = so.more ++ put.taken;
  appended = Appends-trans o g h so.more put.taken so.appended put.grown;
  early = tt;
  comes = λ first read written r.
      subst (λ (l : List ℕ). Ends octets_of allows c first e read l WriteFailed)
      (append_assoc written so.more put.taken)
      (last_answer allows c first now e v.session w.session read (written ++ so.more) put.taken t.reaction WriteFailed
      t.takes (so.comes first read written r)
      (subst (λ (l : List ℕ). IsFront put.taken l) (t.unsent
      ∙ ap (λ (l : List ℕ). l ++ octets_of t.reaction.responses) none) put.front));
}
