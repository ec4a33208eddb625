-- Conversations that go on message by message. Facts on definitions come in and go out; no value of the program is
-- here.
use Rattle.std.proofs.Common.{◌≡◌, inl, inr, ℕ, List, [], ◌∷◌, ◌++◌, take, drop, None, refl, ap, sym, subst, ◌∙◌, append_assoc, take-append-drop}
use Rattle.session_handler.specs.ldap_msg.Messages.{MessageValue}
use Rattle.ldap_framer.specs.Framed.{ending_of}
use Rattle.session_handler.specs.directory_api.Talk.{Exchange, Along}
use Rattle.session_handler.specs.directory_api.Talk as talk
use Rattle.session_handler.specs.Responses.{notice}
use Rattle.session_handler.specs.Session.{ConfigValue, at_first}
use Rattle.session_handler.specs.Turns.{Session}
use Rattle.session_handler.specs.Turns as turns
use Rattle.session_handler.specs.declared.state.State.{State}
use Rattle.session_handler.specs.declared.answered.Next.{Next}
use Rattle.session_handler.specs.declared.answered.Next.TheVariants.{GoesOn, Unbound as UnboundNext, Disconnected as DisconnectedNext}
use Rattle.ldap_session.specs.Octets.{octets_of, IsFront}
use Rattle.ldap_session.specs.View.{SessionValue, ConversationValue}
use Rattle.ldap_session.specs.Visits.{Visited, IsOne, IsSession}
use Rattle.ldap_session.specs.Visits as visits
use Rattle.ldap_session.specs.Serving.{IsEnd, IsCaughtUp}
use Rattle.ldap_session.specs.Conversing.{Stands, IsOver, ComesBy, Continues, IsLast, TakesTurn, TakesLast, GivesNotice, StepsTo, Begins, Listens, Speaks, IsWithOne}
use Rattle.ldap_session.specs.declared.due.Step.{Step}
use Rattle.ldap_session.specs.declared.due.Step.TheVariants.{Awaits, Answered, Ends}
use Rattle.ldap_session.specs.declared.end.SessionEnd.{SessionEnd}
use Rattle.ldap_session.specs.declared.end.SessionEnd.TheVariants.{Unbound, EndOfInput, Truncated, Disconnected, ReadFailed, WriteFailed, NoMemory}
use Rattle.ldap_session.proofs.Written.{octets_append}
use Rattle.ldap_session.proofs.Worked.{front_of, stopped_by}
use Rattle.ldap_session.proofs.Progressed.{session_more, handed_more, talks_join}

-- what is said, where octets are kept behind those that are unsent
said_more : (given old more new said : List ℕ) → new ≡ old ++ more → given ++ old ≡ said → given ++ new ≡ said ++ more
said_more given old more new said is was = ap (λ (l : List ℕ). given ++ l) is ∙ sym (append_assoc given old more)
    ∙ ap (λ (l : List ℕ). l ++ more) was

said_all : (given old more new : List ℕ) (rs qs : List MessageValue) → new ≡ old ++ more → given ++ old ≡
    octets_of rs → more ≡ octets_of qs → given ++ new ≡ octets_of (rs ++ qs)
said_all given old more new rs qs is was whose = said_more given old more new (octets_of rs) is was
    ∙ ap (λ (l : List ℕ). octets_of rs ++ l) whose ∙ sym (octets_append rs qs)

said_front : (given old more new : List ℕ) (rs qs : List MessageValue) → new ≡ old ++ more → given ++ old ≡
    octets_of rs → IsFront more (octets_of qs) → IsFront (given ++ new) (octets_of (rs ++ qs))
said_front given old more new rs qs is was front =
    subst (λ (l : List ℕ). IsFront l (octets_of (rs ++ qs))) (sym (said_more given old more new (given ++ old) is refl))
    (front_of octets_of octets_append rs qs (given ++ old) more was front)

module _ {D T : Type 0} (allows : D → Exchange T → D → Type 0) (c : ConfigValue) (vs : List (D × D))
    (v w : ConversationValue) (d e : D) (heard given : List ℕ) (st : Stands allows c vs v heard given) where
  stands_more : TakesTurn allows c v w d e → Stands allows c (vs ++ (d, e) ∷ []) w heard given
  stands_more t = record {
    handed = st.handed ++ t.takes.taken ∷ [];
    talk = st.talk ++ t.takes.talk;
    responses = st.responses ++ t.reaction.responses;
    seen = handed_more v.session.framed w.session.framed heard st.handed t.takes.taken t.takes.ready t.takes.rest
        t.takes.fault st.seen;
    visited =
        subst (λ (n : Next). Visited allows c (st.handed ++ t.takes.taken ∷ []) (vs ++ (d, e) ∷ [])
        (st.talk ++ t.takes.talk) w.session.state (st.responses ++ t.reaction.responses) n) t.goes
        (subst (λ (x : State). Visited allows c (st.handed ++ t.takes.taken ∷ []) (vs ++ (d, e) ∷ [])
        (st.talk ++ t.takes.talk) x (st.responses ++ t.reaction.responses) t.reaction.next) (sym t.state)
        (visits.one_more st.visited t.takes.turn t.takes.along));
    said = said_all given v.unsent (octets_of t.reaction.responses) w.unsent st.responses t.reaction.responses
        t.unsent st.said refl;
    goes_on = t.end_is;
  }

  last_said : (end : SessionEnd) (next : Next) (qs : List MessageValue) (more : List ℕ) (left : List MessageValue)
      (ending : _) → w.unsent ≡ v.unsent ++ more → IsLast end next (octets_of qs) more →
      IsEnd octets_of end next left ending (st.responses ++ qs) (given ++ w.unsent)
  last_said Unbound next qs more left ending is last =
      (last.0, said_all given v.unsent more w.unsent st.responses qs is st.said last.1)
  last_said Disconnected next qs more left ending is last =
      inl (last.0, said_all given v.unsent more w.unsent st.responses qs is st.said last.1)
  last_said WriteFailed next qs more left ending is last = inl (said_front given v.unsent more w.unsent st.responses
      qs is st.said last)
  last_said NoMemory next qs more left ending is last = inl (said_front given v.unsent more w.unsent st.responses qs
      is st.said last)
  last_said EndOfInput next qs more left ending is last = absurd last
  last_said Truncated next qs more left ending is last = absurd last
  last_said ReadFailed next qs more left ending is last = absurd last

  over_with : (end : SessionEnd) → TakesLast allows c v w d e end → IsOver allows c (vs ++ (d, e) ∷ []) heard
      (given ++ w.unsent) end
  over_with end t = record {
    handed = st.handed ++ t.takes.taken ∷ [];
    more = w.session.framed.ready;
    ending = ending_of w.session.framed.fault w.session.framed.rest;
    talk = st.talk ++ t.takes.talk;
    state = t.reaction.state;
    responses = st.responses ++ t.reaction.responses;
    next = t.reaction.next;
    reads = handed_more v.session.framed w.session.framed heard st.handed t.takes.taken t.takes.ready t.takes.rest
        t.takes.fault st.seen;
    visited = visits.one_more st.visited t.takes.turn t.takes.along;
    is_end = last_said end t.reaction.next t.reaction.responses t.ends.more w.session.framed.ready _ t.ends.unsent
        t.ends.last;
  }

  notice_apart : UnboundNext ≡ DisconnectedNext → ⊥
  notice_apart x = cc

  notice_said : (end : SessionEnd) (more : List ℕ) → v.session.framed.ready ≡ [] → (v.session.framed.fault ≡ None →
      ⊥) → w.unsent ≡ v.unsent ++ more → IsLast end DisconnectedNext (octets_of (notice ∷ [])) more →
      IsEnd octets_of end GoesOn v.session.framed.ready (ending_of v.session.framed.fault v.session.framed.rest)
      st.responses (given ++ w.unsent)
  notice_said Unbound more none fault is last = absurd (notice_apart (sym last.0))
  notice_said Disconnected more none fault is last =
      inr (
        (refl, none, stopped_by v.session.framed.fault v.session.framed.rest fault),
        said_all given v.unsent more
            w.unsent st.responses (notice ∷ []) is st.said last.1,
      )
  notice_said WriteFailed more none fault is last =
      inr (
        (refl, none, stopped_by v.session.framed.fault v.session.framed.rest fault),
        said_front given v.unsent more
            w.unsent st.responses (notice ∷ []) is st.said last,
      )
  notice_said NoMemory more none fault is last =
      inr (
        (refl, none, stopped_by v.session.framed.fault v.session.framed.rest fault),
        said_front given v.unsent more
            w.unsent st.responses (notice ∷ []) is st.said last,
      )
  notice_said EndOfInput more none fault is last = absurd last
  notice_said Truncated more none fault is last = absurd last
  notice_said ReadFailed more none fault is last = absurd last

  over_here : (end : SessionEnd) → GivesNotice v w d e end → IsOver allows c vs heard (given ++ w.unsent) end
  over_here end n = record {
    handed = st.handed;
    more = v.session.framed.ready;
    ending = ending_of v.session.framed.fault v.session.framed.rest;
    talk = st.talk;
    state = v.session.state;
    responses = st.responses;
    next = GoesOn;
    reads = st.seen;
    visited = st.visited;
    is_end = notice_said end n.ends.more n.idle.none n.fault n.ends.unsent n.ends.last;
  }

  comes_by : (step : Step) → StepsTo allows c v w d e step → ComesBy allows c vs w d e heard given step
  comes_by Awaits (idle, fault, same) = (
    subst (λ (x : ConversationValue). Stands allows c vs x heard given) (sym same) st,
    subst (λ (x : SessionValue). IsCaughtUp x) (sym idle.same) (record { none_ready = idle.none; no_fault = fault }),
    idle.untouched,
  )
  comes_by Answered t = stands_more t
  comes_by (Ends end) (inl t) = (inl (over_with end t), t.ends.end_is)
  comes_by (Ends end) (inr n) = (inr (over_here end n, n.idle.untouched), n.ends.end_is)

-- what one step is, it is wherever the conversation stood
pub continues : {D T : Type 0} (allows : D → Exchange T → D → Type 0) (c : ConfigValue) (v w : ConversationValue)
    (d e : D) (step : Step) →
    (v.end ≡ None → StepsTo allows c v w d e step) → Continues allows c v w d e step
continues allows c v w d e step steps vs heard given st = comes_by allows c vs v w d e heard given st step
    (steps st.goes_on)

pub begins : {D T : Type 0} (allows : D → Exchange T → D → Type 0) → Begins allows
begins {D} {T} allows c v fresh = record {
  handed = [];
  talk = [];
  responses = [];
  seen = fresh.seen;
  visited = subst (λ (x : State). Visited {D = D} {T = T} allows c [] [] [] x [] GoesOn) (sym fresh.state) visits.none;
  said = fresh.unsent;
  goes_on = fresh.goes_on;
}

pub listens : {D T : Type 0} (allows : D → Exchange T → D → Type 0) → Listens allows
listens allows c vs v w heard given piece hears st = record {
  handed = st.handed;
  talk = st.talk;
  responses = st.responses;
  seen = hears.stream heard st.handed st.seen;
  visited = subst (λ (x : State). Visited allows c st.handed vs st.talk x st.responses GoesOn) (sym hears.state)
      st.visited;
  said = ap (λ (l : List ℕ). given ++ l) hears.unsent ∙ st.said;
  goes_on = hears.end ∙ st.goes_on;
}

pub speaks : {D T : Type 0} (allows : D → Exchange T → D → Type 0) → Speaks allows
speaks allows c vs v heard given count st = record {
  handed = st.handed;
  talk = st.talk;
  responses = st.responses;
  seen = st.seen;
  visited = st.visited;
  said = append_assoc given (take count v.unsent) (drop count v.unsent) ∙ ap (λ (l : List ℕ). given ++ l)
      (take-append-drop count v.unsent) ∙ st.said;
  goes_on = st.goes_on;
}

pub one_session : {D T : Type 0} (allows : D → Exchange T → D → Type 0) (c : ConfigValue) (ms : List MessageValue)
    (vs : List (D × D)) (xs : List (Exchange T)) (s : State) (rs : List MessageValue) (next : Next) →
    Visited allows c ms vs xs s rs next → Session c at_first ms xs s rs next
one_session allows c ms vs xs s rs next visits.none = turns.ends
one_session allows c ms vs xs s rs next (visits.one_more {ms = before} {visits = earlier} {talk = front} {more = more}
    {s = t} {rs = said} {m = m} {a = a} visited turn along) =
    session_more c at_first t before front more said m a (one_session allows c before earlier front t said GoesOn
    visited) turn

no_last : {A : Type 0} (xs : List A) (x : A) → [] ≡ xs ++ x ∷ [] → ⊥
no_last [] x e = cc
no_last (y ∷ xs) x e = cc

same_head : {A : Type 0} (x y : A) (xs ys : List A) → x ∷ xs ≡ y ∷ ys → x ≡ y
same_head x y xs ys e = cc

same_tail : {A : Type 0} (x y : A) (xs ys : List A) → x ∷ xs ≡ y ∷ ys → xs ≡ ys
same_tail x y xs ys e = cc

-- two lists that are the same have the same last, and the same before it
same_last : {A : Type 0} (xs ys : List A) (x y : A) → xs ++ x ∷ [] ≡ ys ++ y ∷ [] → (xs ≡ ys) × (x ≡ y)
same_last [] [] x y e = (refl, same_head x y [] [] e)
same_last [] (b ∷ ys) x y e = absurd (no_last ys y (same_tail x b [] (ys ++ y ∷ []) e))
same_last (a ∷ xs) [] x y e = absurd (no_last xs x (sym (same_tail a y (xs ++ x ∷ []) [] e)))
same_last (a ∷ xs) (b ∷ ys) x y e =
    let rest = same_last xs ys x y (same_tail a b (xs ++ x ∷ []) (ys ++ y ∷ []) e) in
    let first = same_head a b (xs ++ x ∷ []) (ys ++ y ∷ []) e in
    (ap (λ (z : _). z ∷ xs) first ∙ ap (λ (zs : List _). b ∷ zs) rest.0, rest.1)

-- each visit began where the one before it ended, so the directory went along the whole talk
one_along : {D T : Type 0} (allows : D → Exchange T → D → Type 0) (c : ConfigValue) (d e : D) (us vs : List (D × D))
    (ms : List MessageValue) (xs : List (Exchange T)) (s : State) (rs : List MessageValue) (next : Next) →
    us ≡ vs → IsOne d us e → Visited allows c ms vs xs s rs next → Along allows d xs e
one_along allows c d e us vs ms xs s rs next same visits.unvisited visits.none = talk.ends
one_along allows c d e us vs ms xs s rs next same (visits.goes_on {e = m} {f = f} {visits = before} one) visits.none =
    absurd (no_last before (m, f) (sym same))
one_along allows c d e us vs ms xs s rs next same visits.unvisited (visits.one_more {visits = earlier} {d = from}
    {e = to} visited turn along) = absurd (no_last earlier (from, to) same)
one_along {D} allows c d e us vs ms xs s rs next same (visits.goes_on {e = m} {f = f} {visits = before} one)
    (visits.one_more {ms = taken} {visits = earlier} {talk = front} {more = more} {s = t} {rs = said} {d = from}
    {e = to} visited turn along) =
    let is = same_last before earlier (m, f) (from, to) same in
    talks_join allows (one_along allows c d m before earlier taken front t said GoesOn is.0 one visited)
    (subst (λ (x : D). Along allows m more x) (sym (ap (λ (p : D × D). p.1) is.1))
    (subst (λ (x : D). Along allows x more to) (sym (ap (λ (p : D × D). p.0) is.1)) along))

pub with_one : {D T : Type 0} (allows : D → Exchange T → D → Type 0) → IsWithOne allows
with_one allows c d e vs v heard given one st = record {
  handed = st.handed;
  talk = st.talk;
  responses = st.responses;
  seen = st.seen;
  session = one_session allows c st.handed vs st.talk v.session.state st.responses GoesOn st.visited;
  along = one_along allows c d e vs vs st.handed st.talk v.session.state st.responses GoesOn refl one st.visited;
  written_are = st.said;
}
