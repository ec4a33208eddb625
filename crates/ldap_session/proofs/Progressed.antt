-- Sessions that go on message by message.
use Rattle.std.proofs.Common.{◌≡◌, ◌≤◌, ℕ, arith, length, List, [], ◌∷◌, ◌++◌, Option, refl, ap, sym, subst, ◌∙◌, append_assoc, append-nil}
use Rattle.session_handler.specs.ldap_msg.Messages.{MessageValue}
use Rattle.ldap_framer.specs.Stream.{Reads}
use Rattle.ldap_framer.specs.Framed.{Framed, ending_of, HasSeen}
use Rattle.session_handler.specs.directory_api.Talk.{Exchange, Along}
use Rattle.session_handler.specs.directory_api.Talk as talk
use Rattle.session_handler.specs.Session.{ConfigValue, Reaction, at_first}
use Rattle.session_handler.specs.declared.state.State.{State}
use Rattle.session_handler.specs.Turns.{Turn, Session, ends, goes_on, stops}
use Rattle.session_handler.specs.declared.answered.Next.{Next}
use Rattle.session_handler.specs.declared.answered.Next.TheVariants.{GoesOn, Unbound, Disconnected}
use Rattle.ldap_session.specs.Octets.{IsFront}
use Rattle.ldap_session.specs.View.{SessionValue}
use Rattle.ldap_session.specs.Progress.{TakesNext, Reached}
use Rattle.ldap_session.specs.Serving.{IsEnd, Ends}
use Rattle.ldap_session.specs.declared.end.SessionEnd.{SessionEnd}

pub talks_join : {D T : Type 0} (allows : D → Exchange T → D → Type 0) {d e f : D} {xs ys : List (Exchange T)} →
    Along allows d xs e → Along allows e ys f → Along allows d (xs ++ ys) f
talks_join allows talk.ends q = q
talks_join allows (talk.goes x p) q = talk.goes x (talks_join allows p q)

pub goes_apart : Unbound ≡ GoesOn → ⊥
goes_apart e = cc

pub goes_apart_too : Disconnected ≡ GoesOn → ⊥
goes_apart_too e = cc

-- one message is a session
pub session_one : {T : Type 0} (c : ConfigValue) (s : State) (m : MessageValue) (xs : List (Exchange T))
    (a : Reaction) →
    Turn c s m xs a → Session c s (m ∷ []) xs a.state a.responses a.next
session_one {T} c s m xs a turn = by_next a.next refl
  where
    by_next : (n : Next) → a.next ≡ n → Session c s (m ∷ []) xs a.state a.responses a.next
    by_next GoesOn e =
        subst (λ (n : Next). Session c s (m ∷ []) xs a.state a.responses n) (sym e)
        (subst (λ (rs : List MessageValue). Session c s (m ∷ []) xs a.state rs GoesOn) (append-nil a.responses)
        (subst (λ (ys : List (Exchange T)). Session c s (m ∷ []) ys a.state (a.responses ++ []) GoesOn)
        (append-nil xs) (goes_on turn e ends)))
    by_next Unbound e = stops turn (λ f. goes_apart (sym e ∙ f))
    by_next Disconnected e = stops turn (λ f. goes_apart_too (sym e ∙ f))

-- a session goes on from where another came to
pub sessions_join : {T : Type 0} (c : ConfigValue) (s t u : State) (ms ns : List MessageValue)
    (xs ys : List (Exchange T)) (rs qs : List MessageValue) (next last : Next) →
    last ≡ GoesOn → Session c s ms xs t rs last → Session c t ns ys u qs next → Session c s (ms ++ ns) (xs ++ ys) u
    (rs ++ qs) next
sessions_join c s t u ms ns xs ys rs qs next last e ends q = q
sessions_join {T} c s t u ms ns xs ys rs qs next last e (goes_on {m = m} {ms = more} {xs = first} {ys = then} {a = a}
    {rs = answers} turn goes p) q =
    subst (λ (zs : List MessageValue). Session c s (m ∷ more ++ ns) ((first ++ then) ++ ys) u zs next)
    (sym (append_assoc a.responses answers qs))
    (subst (λ (zs : List (Exchange T)). Session c s (m ∷ more ++ ns) zs u (a.responses ++ (answers ++ qs)) next)
    (sym (append_assoc first then ys))
    (goes_on turn goes (sessions_join c a.state t u more ns then ys answers qs next last e p q)))
sessions_join c s t u ms ns xs ys rs qs next last e (stops turn apart) q = absurd (apart e)

-- a session takes one message more
pub session_more : {T : Type 0} (c : ConfigValue) (s t : State) (ms : List MessageValue) (xs ys : List (Exchange T))
    (rs : List MessageValue) (m : MessageValue) (a : Reaction) →
    Session c s ms xs t rs GoesOn → Turn c t m ys a → Session c s (ms ++ m ∷ []) (xs ++ ys) a.state
    (rs ++ a.responses) a.next
session_more c s t ms xs ys rs m a p turn = sessions_join c s t a.state ms (m ∷ []) xs ys rs a.responses a.next GoesOn
    refl p (session_one c t m ys a turn)

-- the messages of a stream, where one more is handed out
pub handed_more : (f g : Framed) (read : List ℕ) (handed : List MessageValue) (m : MessageValue) →
    f.ready ≡ m ∷ g.ready → g.rest ≡ f.rest → g.fault ≡ f.fault → HasSeen f read handed →
    HasSeen g read (handed ++ m ∷ [])
handed_more f g read handed m ready rest fault seen =
    subst (λ (ms : List MessageValue). Reads read ms (ending_of g.fault g.rest))
    (ap (λ (ms : List MessageValue). handed ++ ms) ready ∙ sym (append_assoc handed (m ∷ []) g.ready))
    (subst (λ (r : List ℕ). Reads read (handed ++ f.ready) (ending_of g.fault r)) (sym rest)
    (subst (λ (x : Option _). Reads read (handed ++ f.ready) (ending_of x f.rest)) (sym fault) seen))

-- a session so far has answered one message more
pub reached_more : {D T : Type 0} (shown : List MessageValue → List ℕ) → ((xs ys : List MessageValue) →
    shown (xs ++ ys) ≡ shown xs ++ shown ys) → (allows : D → Exchange T → D → Type 0) (c : ConfigValue)
    (first d e : D) (s t : SessionValue) (read written : List ℕ) (a : Reaction) →
    t.state ≡ a.state → a.next ≡ GoesOn → TakesNext allows c s t d e a → Reached shown allows c first d s read
    written → Reached shown allows c first e t read (written ++ shown a.responses)
reached_more {D} {T} shown append allows c first d e s t read written a state goes takes r = record {
  handed = r.handed ++ takes.taken ∷ [];
  talk = r.talk ++ takes.talk;
  responses = r.responses ++ a.responses;
  seen = handed_more s.framed t.framed read r.handed takes.taken takes.ready takes.rest takes.fault r.seen;
  session =
      subst (λ (n : Next). Session c at_first (r.handed ++ takes.taken ∷ []) (r.talk ++ takes.talk) t.state
      (r.responses ++ a.responses) n) goes
      (subst (λ (x : State). Session c at_first (r.handed ++ takes.taken ∷ []) (r.talk ++ takes.talk) x
      (r.responses ++ a.responses) a.next) (sym state)
      (session_more c at_first s.state r.handed r.talk takes.talk r.responses takes.taken a r.session takes.turn));
  along = talks_join allows r.along takes.along;
  written_are = ap (λ (l : List ℕ). l ++ shown a.responses) r.written_are ∙ sym (append r.responses a.responses);
}

-- what is written so far stays in front of what is written further on
written_whole : (shown written more : List ℕ) → written ≡ shown → IsFront shown (written ++ more)
written_whole shown written more are = record { rest = more; is = ap (λ (l : List ℕ). l ++ more) are }

at_most_one : (m : MessageValue) → length (m ∷ []) ≤ 1
at_most_one m = omega arith

none_at_all : length {A = MessageValue} [] ≤ 1
none_at_all = omega arith

-- a session ends with a message
pub ends_with : {D T : Type 0} (shown : List MessageValue → List ℕ) (allows : D → Exchange T → D → Type 0)
    (c : ConfigValue) (first d e : D) (s t : SessionValue) (read written more : List ℕ) (a : Reaction)
    (end : SessionEnd) →
    TakesNext allows c s t d e a → (r : Reached shown allows c first d s read written) →
    IsEnd shown end a.next t.framed.ready (ending_of t.framed.fault t.framed.rest) (r.responses ++ a.responses)
    (written ++ more) → Ends shown allows c first e read (written ++ more) end
ends_with {D} {T} shown allows c first d e s t read written more a end takes r is = record {
  handed = r.handed ++ takes.taken ∷ [];
  more = t.framed.ready;
  ending = ending_of t.framed.fault t.framed.rest;
  talk = r.talk ++ takes.talk;
  state = a.state;
  responses = r.responses ++ a.responses;
  next = a.next;
  reads = handed_more s.framed t.framed read r.handed takes.taken takes.ready takes.rest takes.fault r.seen;
  session = session_more c at_first s.state r.handed r.talk takes.talk r.responses takes.taken a r.session takes.turn;
  along = talks_join allows r.along takes.along;
  is_end = is;
  before = record {
    earlier = r.handed;
    last = takes.taken ∷ [];
    talk_before = r.talk;
    talk_last = takes.talk;
    said = r.responses;
    said_last = a.responses;
    state = s.state;
    handed_are = refl;
    at_most_one = at_most_one takes.taken;
    talk_is = refl;
    responses_are = refl;
    session = r.session;
    whole = written_whole (shown r.responses) written more r.written_are;
  };
}

-- a session ends where it stands
pub ends_here : {D T : Type 0} (shown : List MessageValue → List ℕ) (allows : D → Exchange T → D → Type 0)
    (c : ConfigValue) (first d : D) (s : SessionValue) (read written more : List ℕ) (end : SessionEnd) →
    (r : Reached shown allows c first d s read written) → IsEnd shown end GoesOn s.framed.ready
    (ending_of s.framed.fault s.framed.rest) r.responses (written ++ more) →
    Ends shown allows c first d read (written ++ more) end
ends_here shown allows c first d s read written more end r is = record {
  handed = r.handed;
  more = s.framed.ready;
  ending = ending_of s.framed.fault s.framed.rest;
  talk = r.talk;
  state = s.state;
  responses = r.responses;
  next = GoesOn;
  reads = r.seen;
  session = r.session;
  along = r.along;
  is_end = is;
  before = record {
    earlier = r.handed;
    last = [];
    talk_before = r.talk;
    talk_last = [];
    said = r.responses;
    said_last = [];
    state = s.state;
    handed_are = sym (append-nil r.handed);
    at_most_one = none_at_all;
    talk_is = sym (append-nil r.talk);
    responses_are = sym (append-nil r.responses);
    session = r.session;
    whole = written_whole (shown r.responses) written more r.written_are;
  };
}
