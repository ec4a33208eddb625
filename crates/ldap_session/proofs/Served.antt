-- A session from piece to piece.
use Rattle.std.proofs.Common.{◌≡◌, ◌⊎◌, inl, inr, ℕ, List, [], ◌++◌, Option, None, Some, refl, ap, sym, subst, ◌∙◌, append-nil}
use Rattle.std.specs.Io.KnownBytes.{Appends, Consumes, IsAtEnd}
use Rattle.std.proofs.KnownBytes.{Appends-nil, Appends-trans, Consumes-nil, Consumes-trans}
use Rattle.session_handler.specs.ldap_msg.Messages.{MessageValue}
use Rattle.ldap_framer.specs.Framed.{ending_of, HasSeen}
use Rattle.session_handler.specs.directory_api.Talk.{Exchange}
use Rattle.session_handler.specs.directory_api.Talk as talk
use Rattle.session_handler.specs.Session.{ConfigValue, at_first}
use Rattle.session_handler.specs.declared.state.State.{State}
use Rattle.session_handler.specs.Turns.{Session, ends}
use Rattle.session_handler.specs.declared.answered.Next.TheVariants.{GoesOn}
use Rattle.ldap_session.specs.Octets.{octets_of}
use Rattle.ldap_session.specs.View.{SessionValue}
use Rattle.ldap_session.specs.Progress.{Reached, IsAtLast}
use Rattle.ldap_session.specs.Serving.{IsBetween, IsInside, IsAwaiting, Ends, IsRead, Served, IsCaughtUp}
use Rattle.ldap_session.specs.private.Serving.{ComesTo}
use Rattle.ldap_session.specs.private.Steps.{IsFlushed, HasFlushed, IsEarly, HasWorked, Takes, HasFed}
use Rattle.ldap_session.specs.declared.end.SessionEnd.{SessionEnd}
use Rattle.ldap_session.specs.declared.end.SessionEnd.TheVariants.{Unbound, EndOfInput, Truncated, Disconnected, ReadFailed, WriteFailed, NoMemory}
use Rattle.ldap_session.specs.declared.serving.Flow.{Flow}
use Rattle.ldap_session.specs.declared.serving.Flow.TheVariants.{Goes, Ends as EndsWith}
use Rattle.ldap_session.proofs.Written.{whole_front}
use Rattle.ldap_session.proofs.Progressed.{ends_here}

-- the stream goes on by a piece
abbrev pub HasTaken : SessionValue → SessionValue → List ℕ → Type 0
HasTaken s t piece = (stream : List ℕ) (handed : List MessageValue) → HasSeen s.framed stream handed →
    HasSeen t.framed (stream ++ piece) handed

pub piece_reached : {D T : Type 0} (shown : List MessageValue → List ℕ) (allows : D → Exchange T → D → Type 0)
    (c : ConfigValue) (first d : D) (s t : SessionValue) (piece read written : List ℕ) →
    HasTaken s t piece → t.state ≡ s.state → Reached shown allows c first d s read written →
    Reached shown allows c first d t (read ++ piece) written
piece_reached shown allows c first d s t piece read written taken state r = record {
  handed = r.handed;
  talk = r.talk;
  responses = r.responses;
  seen = taken read r.handed r.seen;
  session = subst (λ (x : State). Session c at_first r.handed r.talk x r.responses GoesOn) (sym state) r.session;
  along = r.along;
  written_are = r.written_are;
}

-- a session that stands somewhere ends there
cut_off : {D T : Type 0} (allows : D → Exchange T → D → Type 0) (c : ConfigValue) (first d : D) (s : SessionValue)
    (read written : List ℕ) →
    Reached octets_of allows c first d s read written → Ends octets_of allows c first d read written WriteFailed
    × Ends octets_of allows c first d read written NoMemory
cut_off allows c first d s read written r =
    let front = whole_front (octets_of r.responses) written r.written_are in (
      subst (λ (l : List ℕ). Ends octets_of allows c first d read l WriteFailed) (append-nil written)
          (ends_here octets_of allows c first d s read written [] WriteFailed r (inl front)),
      subst (λ (l : List ℕ). Ends octets_of allows c first d read l NoMemory) (append-nil written)
          (ends_here octets_of allows c first d s read written [] NoMemory r (inl front)),
    )

-- there is no memory for a piece
pub not_fed : {D T : Type 0} (allows : D → Exchange T → D → Type 0) (c : ConfigValue) (d : D) (s t : SessionValue)
    (piece : List ℕ) (o : Option (List ℕ)) →
    HasFed allows c d d s t piece o o (EndsWith NoMemory)
not_fed allows c d s t piece o = record {
  taken = [];
  more = [];
  takes = inr (refl, refl);
  appended = Appends-nil o;
  early = tt;
  comes = λ first read written r.
      subst (λ (l : List ℕ). Ends octets_of allows c first d l (written ++ []) NoMemory) (sym (append-nil read))
      (subst (λ (l : List ℕ). Ends octets_of allows c first d read l NoMemory) (sym (append-nil written))
      (cut_off allows c first d s read written r).1);
}

-- a writer that fails ends what would go on
flushed_comes : {D T : Type 0} (allows : D → Exchange T → D → Type 0) (c : ConfigValue) (first d : D)
    (t : SessionValue) (read written : List ℕ) (before after : Flow) →
    IsFlushed before after → ComesTo allows c first d t read written before → ComesTo allows c first d t read written
    after
flushed_comes allows c first d t read written Goes Goes f x = x
flushed_comes allows c first d t read written Goes (EndsWith end) f x =
    subst (λ (e : SessionEnd). Ends octets_of allows c first d read written e) (sym f)
    (cut_off allows c first d t read written x.0).0
flushed_comes allows c first d t read written (EndsWith end) after f x = subst (λ (w : Flow). ComesTo allows c first d
    t read written w) (sym f) x

flushed_early : (before after : Flow) → IsFlushed before after → IsEarly before → IsEarly after
flushed_early Goes Goes f x = tt
flushed_early Goes (EndsWith end) f x = subst (λ (e : SessionEnd). IsEarly (EndsWith e)) (sym f) tt
flushed_early (EndsWith end) after f x = subst IsEarly (sym f) x

taken_whole : (piece : List ℕ) (flow : Flow) → Takes piece piece flow
taken_whole piece Goes = refl
taken_whole piece (EndsWith end) = inl refl

-- a piece is taken, and answered
pub fed : {D T : Type 0} (allows : D → Exchange T → D → Type 0) (c : ConfigValue) (old now : D) (s u t : SessionValue)
    (piece : List ℕ) (o g h : Option (List ℕ)) (before after : Flow) →
    HasTaken s u piece → u.state ≡ s.state → HasWorked allows c old now u t o g before → HasFlushed g h before after →
    HasFed allows c old now s t piece o h after
fed allows c old now s u t piece o g h before after taken state w f = record {
  taken = piece;
  more = w.more;
  takes = taken_whole piece after;
  appended = subst (λ (l : List ℕ). Appends o h l) (append-nil w.more) (Appends-trans o g h w.more [] w.appended
      f.appended);
  early = flushed_early before after f.flow w.early;
  comes = λ first read written r.
      flushed_comes allows c first now t (read ++ piece) (written ++ w.more) before after f.flow
      (w.comes first (read ++ piece) written (piece_reached octets_of allows c first old s u piece read written taken
      state r));
}

-- a session that is served, and goes on
pub record Going {D T : Type 0} (allows : D → Exchange T → D → Type 0) (c : ConfigValue) (first now : D)
    (s : SessionValue) (input left output grown : Option (List ℕ)) : Type 0 where
  pub read : List ℕ
  pub written : List ℕ
  pub consumed : Consumes input left read
  pub appended : Appends output grown written
  pub reached : Reached octets_of allows c first now s read written
  pub caught_up : IsCaughtUp s

pub going_first : {D T : Type 0} (allows : D → Exchange T → D → Type 0) (c : ConfigValue) (d : D) (s : SessionValue)
    (i o : Option (List ℕ)) →
    HasSeen s.framed [] [] → s.framed.ready ≡ [] → s.framed.fault ≡ None → s.state ≡ at_first →
    Going allows c d d s i i o o
going_first {D} {T} allows c d s i o seen ready fault state = record {
  read = [];
  written = [];
  consumed = Consumes-nil i;
  appended = Appends-nil o;
  reached = record {
    handed = [];
    talk = [];
    responses = [];
    seen = seen;
    session = subst (λ (x : State). Session {T = T} c at_first [] [] x [] GoesOn) (sym state) ends;
    along = talk.ends;
    written_are = refl;
  };
  caught_up = record { none_ready = ready; no_fault = fault };
}

-- a piece further, where it still goes on
pub going_on : {D T : Type 0} (allows : D → Exchange T → D → Type 0) (c : ConfigValue) (first old now : D)
    (s t : SessionValue) (i l m o g h : Option (List ℕ)) (piece : List ℕ) →
    Going allows c first old s i l o g → Consumes l m piece → HasFed allows c old now s t piece g h Goes →
    Going allows c first now t i m o h
going_on allows c first old now s t i l m o g h piece go got f = record {
  read = go.read ++ f.taken;
  written = go.written ++ f.more;
  consumed = subst (λ (p : List ℕ). Consumes i m (go.read ++ p)) (sym f.takes) (Consumes-trans i l m go.read piece
      go.consumed got);
  appended = Appends-trans o g h go.written f.more go.appended f.appended;
  reached = (f.comes first go.read go.written go.reached).0;
  caught_up = (f.comes first go.read go.written go.reached).1;
}

early_read : (end : SessionEnd) (left : Option (List ℕ)) → IsEarly (EndsWith end) → IsRead end left
early_read Unbound left x = tt
early_read EndOfInput left x = absurd x
early_read Truncated left x = absurd x
early_read Disconnected left x = tt
early_read ReadFailed left x = tt
early_read WriteFailed left x = tt
early_read NoMemory left x = tt

-- a piece further, where it ends
pub going_ends : {D T : Type 0} (allows : D → Exchange T → D → Type 0) (c : ConfigValue) (first old now : D)
    (s t : SessionValue) (i l m o g h : Option (List ℕ)) (piece : List ℕ) (end : SessionEnd) →
    Going allows c first old s i l o g → Consumes l m piece → HasFed allows c old now s t piece g h (EndsWith end) →
    Served allows c first now i m o h end
going_ends {D} {T} allows c first old now s t i l m o g h piece end go got f = by f.takes
  where
    by : (f.taken ≡ piece) ⊎ ((f.taken ≡ []) × (end ≡ NoMemory)) → Served allows c first now i m o h end
    by (inl whole) = record {
      read = go.read ++ f.taken;
      dropped = [];
      written = go.written ++ f.more;
      consumed =
          subst (λ (p : List ℕ). Consumes i m p) (sym (append-nil (go.read ++ f.taken)))
          (subst (λ (p : List ℕ). Consumes i m (go.read ++ p)) (sym whole) (Consumes-trans i l m go.read piece
          go.consumed got));
      appended = Appends-trans o g h go.written f.more go.appended f.appended;
      ends = f.comes first go.read go.written go.reached;
      all = λ _. refl;
      at_end = early_read end m f.early;
    }
    by (inr (none, ended)) = record {
      read = go.read ++ f.taken;
      dropped = piece;
      written = go.written ++ f.more;
      consumed =
          subst (λ (p : List ℕ). Consumes i m (p ++ piece)) (sym (ap (λ (p : List ℕ). go.read ++ p) none
          ∙ append-nil go.read))
          (Consumes-trans i l m go.read piece go.consumed got);
      appended = Appends-trans o g h go.written f.more go.appended f.appended;
      ends = f.comes first go.read go.written go.reached;
      all = λ apart. absurd (apart ended);
      at_end = early_read end m f.early;
    }

between : (fault : Option _) (rest : List ℕ) → fault ≡ None → rest ≡ [] → IsBetween (ending_of fault rest)
between None rest f r = r
between (Some x) rest f r = absurd (some_apart f)
  where
    some_apart : Some x ≡ None → ⊥
    some_apart e = cc

inside : (fault : Option _) (rest : List ℕ) → fault ≡ None → (rest ≡ [] → ⊥) → IsInside (ending_of fault rest)
inside None rest f r = r
inside (Some x) rest f r = absurd (some_apart f)
  where
    some_apart : Some x ≡ None → ⊥
    some_apart e = cc

-- where no fault has stopped a stream, a message is awaited
pub awaiting : (fault : Option _) (rest : List ℕ) → fault ≡ None → IsAwaiting (ending_of fault rest)
awaiting None rest f = tt
awaiting (Some x) rest f = absurd (some_apart f)
  where
    some_apart : Some x ≡ None → ⊥
    some_apart e = cc

-- a session that is caught up ends where its input ends, all responses written
pub last : {D T : Type 0} (shown : List MessageValue → List ℕ) (allows : D → Exchange T → D → Type 0)
    (c : ConfigValue) (first now : D) (s : SessionValue) (read written : List ℕ) (end : SessionEnd) →
    IsAtLast s end → IsCaughtUp s → Reached shown allows c first now s read written → Ends shown allows c first now
    read written end
last shown allows c first now s read written end at caught r = by (at caught.no_fault)
  where
    by : ((end ≡ EndOfInput) × (s.framed.rest ≡ [])) ⊎ ((end ≡ Truncated) × (s.framed.rest ≡ [] → ⊥)) →
        Ends shown allows c first now read written end
    by (inl (is, rest)) =
        subst (λ (e : SessionEnd). Ends shown allows c first now read written e) (sym is)
        (subst (λ (l : List ℕ). Ends shown allows c first now read l EndOfInput) (append-nil written)
        (ends_here shown allows c first now s read written [] EndOfInput r (
          refl,
          caught.none_ready,
          between s.framed.fault s.framed.rest caught.no_fault rest,
          append-nil written
              ∙ r.written_are,
        )))
    by (inr (is, rest)) =
        subst (λ (e : SessionEnd). Ends shown allows c first now read written e) (sym is)
        (subst (λ (l : List ℕ). Ends shown allows c first now read l Truncated) (append-nil written)
        (ends_here shown allows c first now s read written [] Truncated r (
          refl,
          caught.none_ready,
          inside s.framed.fault s.framed.rest caught.no_fault rest,
          append-nil written
              ∙ r.written_are,
        )))

is_read_last : (end : SessionEnd) (left : Option (List ℕ)) → IsAtEnd left → IsRead end left
is_read_last Unbound left x = tt
is_read_last EndOfInput left x = x
is_read_last Truncated left x = x
is_read_last Disconnected left x = tt
is_read_last ReadFailed left x = tt
is_read_last WriteFailed left x = tt
is_read_last NoMemory left x = tt

-- the input has ended
pub served_last : {D T : Type 0} (allows : D → Exchange T → D → Type 0) (c : ConfigValue) (first now : D)
    (s : SessionValue) (i l m o g : Option (List ℕ)) (end : SessionEnd) →
    Going allows c first now s i l o g → Consumes l m [] → IsAtEnd m → IsAtLast s end → Served allows c first now i m
    o g end
served_last allows c first now s i l m o g end go got at last_is = record {
  read = go.read;
  dropped = [];
  written = go.written;
  consumed = Consumes-trans i l m go.read [] go.consumed got;
  appended = go.appended;
  ends = last octets_of allows c first now s go.read go.written end last_is go.caught_up go.reached;
  all = λ _. refl;
  at_end = is_read_last end m at;
}

-- a read has failed
pub served_failed : {D T : Type 0} (allows : D → Exchange T → D → Type 0) (c : ConfigValue) (first now : D)
    (s : SessionValue) (i l m o g : Option (List ℕ)) →
    Going allows c first now s i l o g → Consumes l m [] → Served allows c first now i m o g ReadFailed
served_failed allows c first now s i l m o g go got = record {
  read = go.read;
  dropped = [];
  written = go.written;
  consumed = Consumes-trans i l m go.read [] go.consumed got;
  appended = go.appended;
  ends =
      subst (λ (x : List ℕ). Ends octets_of allows c first now go.read x ReadFailed) (append-nil go.written)
      (ends_here octets_of allows c first now s go.read go.written [] ReadFailed go.reached (
        refl,
        go.caught_up.none_ready,
        awaiting s.framed.fault s.framed.rest go.caught_up.no_fault,
        append-nil go.written ∙ go.reached.written_are,
      ));
  all = λ _. refl;
  at_end = tt;
}
