-- What a session over lines has written when it goes on or ends.
use Rattle.std.proofs.Common.{◌≡◌, ◌⊎◌, inl, inr, ℕ, List, [], ◌∷◌, ◌++◌, Option, None, Some, Result, Ok, Err, IfOk, IfErr, refl, ap, sym, subst, ◌∙◌, append_assoc, append-nil}
use Rattle.std.specs.Io.KnownBytes.{Appends}
use Rattle.std.proofs.KnownBytes.{Appends-nil, Appends-trans}
use Rattle.ldap_session.specs.ldap_msg.Messages.{MessageValue}
use Rattle.ldap_session.specs.ldap_framer.Stream.{Ending}
use Rattle.ldap_session.specs.directory_api.Talk.{Exchange}
use Rattle.ldap_session.specs.session_handler.Responses.{notice}
use Rattle.ldap_session.specs.session_handler.Session.{ConfigValue}
use Rattle.ldap_session.specs.session_handler.declared.answered.Answered.{Answered}
use Rattle.ldap_session.specs.session_handler.declared.answered.Next.{Next}
use Rattle.ldap_session.specs.session_handler.declared.answered.Next.TheVariants.{GoesOn, Unbound as UnboundNext, Disconnected as DisconnectedNext}
use Rattle.ldap_session.specs.session_handler.request_checks.declared.fault.AnswerError.{AnswerError}
use Rattle.ldap_session.specs.Octets.{IsFront}
use Rattle.ldap_session.specs.View.{SessionValue}
use Rattle.ldap_session.specs.Progress.{IsWritten, AnswersNext, IsIdle, Answers, Reached}
use Rattle.ldap_session.specs.Serving.{IsFrontDue, IsEnd, Ends, IsCaughtUp}
use Rattle.ldap_session.specs.declared.end.SessionEnd.TheVariants.{Unbound, Disconnected, NoMemory}
use Rattle.ldap_session.proofs.Progressed.{reached_more, ends_with, ends_here, goes_apart_too}
use Rattle.ldap_session.proofs.Written.{whole_front}
use Rattle.ldap_session.proofs.Worked.{stopped_by, front_of, no_front}
use Rattle.ldap_session.proofs.Served.{HasTaken, piece_reached}
use Rattle.local_directory.specs.Lines.{message_lines}
use Rattle.local_directory.specs.private.Lines.{hex_lines}
use Rattle.local_directory.specs.Faults.{IsWriteFault, end_of}
use Rattle.local_directory.specs.private.Faults.{IsCutOff}
use Rattle.local_directory.specs.private.Answered.{ComesTo, HasPut, HasWorked, HasFailed, HasFlushed, HasNotFlushed, HasFed, HasFailedAt}
use Rattle.local_directory.specs.declared.line_fault.LineFault.{LineFault}
use Rattle.local_directory.specs.declared.line_fault.LineFault.TheVariants.{BadHexLine, CannotRead, CannotWrite, TooLong, NoMemory as NoMemoryFault}
use Rattle.local_directory.proofs.Growing.{messages_append, written_lines}

-- a session that has answered some messages, and written so many lines for them
pub record SoFar {D T : Type 0} (allows : D → Exchange T → D → Type 0) (c : ConfigValue) (old now : D)
    (s t : SessionValue) (output grown : Option (List ℕ)) : Type 0 where
  pub more : List ℕ
  pub appended : Appends output grown more
  pub comes : (first : D) (read written : List ℕ) → Reached message_lines allows c first old s read written →
      Reached message_lines allows c first now t read (written ++ more)

pub begun : {D T : Type 0} (allows : D → Exchange T → D → Type 0) (c : ConfigValue) (d : D) (s : SessionValue)
    (o : Option (List ℕ)) → SoFar allows c d d s s o o
begun allows c d s o = record {
  more = [];
  appended = Appends-nil o;
  comes = λ first read written r. subst (λ (l : List ℕ). Reached message_lines allows c first d s read l)
      (sym (append-nil written)) r;
}

lines_are : (given : Answered) (rs : List MessageValue) (next : Next) → IsWritten given rs next →
    hex_lines given.responses ≡ message_lines rs
lines_are given rs next w = ap hex_lines w.octets ∙ written_lines rs

-- a message, or what is none, is answered
abbrev pub Answered1 : {D T : Type 0} → (D → Exchange T → D → Type 0) → ConfigValue → SessionValue → SessionValue →
    D → D → Answered → Type 0
Answered1 allows c s t d e given =
    AnswersNext allows c s t d e given ⊎ (IsIdle s t d e × (s.framed.fault ≡ None → ⊥) × IsWritten given (notice ∷ [])
    DisconnectedNext)

pub answered_some : {D T : Type 0} (allows : D → Exchange T → D → Type 0) (c : ConfigValue) (s t : SessionValue)
    (d e : D) (r : Result (Option Answered) AnswerError) (o : Option Answered) (given : Answered) →
    r ≡ Ok o → o ≡ Some given → Answers allows c s t d e r → Answered1 allows c s t d e given
answered_some allows c s t d e r o given ok is h = subst (λ (x : Result (Option Answered) AnswerError). Answers allows
    c s t d e x) (ok ∙ ap Ok is) h

-- it is written, and the session goes on or ends
pub put_as : (o g : Option (List ℕ)) (given : Answered) (r : Result Next LineFault) (n m : Next) → r ≡ Ok n → n ≡ m →
    IfOk r (λ next. HasPut o g given next) → HasPut o g given m
put_as o g given r n m ok is h = subst (λ (x : Result Next LineFault). IfOk x (λ next. HasPut o g given next))
    (ok ∙ ap Ok is) h

-- a message more is answered, and the session goes on
pub more_answered : {D T : Type 0} (allows : D → Exchange T → D → Type 0) (c : ConfigValue) (old now e : D)
    (s0 s t : SessionValue) (o g h : Option (List ℕ)) (given : Answered) →
    SoFar allows c old now s0 s o g → Answered1 allows c s t now e given → Appends g h (hex_lines given.responses) →
    given.next ≡ GoesOn → SoFar allows c old e s0 t o h
more_answered allows c old now e s0 s t o g h given w (inl a) put goes = record {
  more = w.more ++ message_lines a.reaction.responses;
  appended = Appends-trans o g h w.more _ w.appended (subst (λ (l : List ℕ). Appends g h l)
      (lines_are given a.reaction.responses a.reaction.next a.written) put);
  comes = λ first read written r.
      subst (λ (l : List ℕ). Reached message_lines allows c first e t read l)
      (append_assoc written w.more (message_lines a.reaction.responses))
      (reached_more message_lines messages_append allows c first now e s t read (written ++ w.more) a.reaction a.state
      (sym a.written.goes ∙ goes) a.takes (w.comes first read written r));
}
more_answered allows c old now e s0 s t o g h given w (inr n) put goes = absurd (goes_apart_too (sym n.2.goes ∙ goes))

-- all is answered
pub all_answered : {D T : Type 0} (allows : D → Exchange T → D → Type 0) (c : ConfigValue) (old now e : D)
    (s0 s t : SessionValue) (o g : Option (List ℕ)) →
    SoFar allows c old now s0 s o g → IsIdle s t now e × (s.framed.fault ≡ None) → HasWorked allows c old e s0 t o g
    GoesOn
all_answered allows c old now e s0 s t o g w (idle, fault) = record {
  more = w.more;
  appended = w.appended;
  comes = λ first read written r. (
    subst (λ (x : SessionValue). Reached message_lines allows c first e x read (written ++ w.more)) (sym idle.same)
        (subst (λ (x : _). Reached message_lines allows c first x s read (written ++ w.more)) (sym idle.untouched)
        (w.comes first read written r)),
    subst (λ (x : SessionValue). IsCaughtUp x) (sym idle.same) (record { none_ready = idle.none; no_fault = fault }),
  );
}

-- all lines of the responses to a message, behind all lines before
all_of : (rs qs : List MessageValue) (written : List ℕ) → written ≡ message_lines rs → written ++ message_lines qs ≡
    message_lines (rs ++ qs)
all_of rs qs written are = ap (λ (l : List ℕ). l ++ message_lines qs) are ∙ sym (messages_append rs qs)

-- the last word, and what it makes of a session
last_answer : {D T : Type 0} (allows : D → Exchange T → D → Type 0) (c : ConfigValue) (first now e : D)
    (s t : SessionValue) (read written : List ℕ) (given : Answered) (next : Next) →
    (a : AnswersNext allows c s t now e given) → (r : Reached message_lines allows c first now s read written) →
    given.next ≡ next → (next ≡ GoesOn → ⊥) →
    ComesTo allows c first e t read (written ++ message_lines a.reaction.responses) next
last_answer allows c first now e s t read written given GoesOn a r is apart = absurd (apart refl)
last_answer allows c first now e s t read written given UnboundNext a r is apart =
    ends_with message_lines allows c first now e s t read written (message_lines a.reaction.responses) a.reaction
    Unbound a.takes r
    (sym a.written.goes ∙ is, all_of r.responses a.reaction.responses written r.written_are)
last_answer allows c first now e s t read written given DisconnectedNext a r is apart =
    ends_with message_lines allows c first now e s t read written (message_lines a.reaction.responses) a.reaction
    Disconnected a.takes r
    (inl (sym a.written.goes ∙ is, all_of r.responses a.reaction.responses written r.written_are))

last_notice : {D T : Type 0} (allows : D → Exchange T → D → Type 0) (c : ConfigValue) (first now : D)
    (s t : SessionValue) (read written : List ℕ) (given : Answered) (next : Next) →
    s.framed.ready ≡ [] → (s.framed.fault ≡ None → ⊥) → IsWritten given (notice ∷ []) DisconnectedNext →
    (r : Reached message_lines allows c first now s read written) → given.next ≡ next →
    ComesTo allows c first now t read (written ++ message_lines (notice ∷ [])) next
last_notice allows c first now s t read written given GoesOn none fault w r is =
    absurd (goes_apart_too (sym w.goes ∙ is))
last_notice allows c first now s t read written given UnboundNext none fault w r is = absurd (apart (sym is ∙ w.goes))
  where
    apart : UnboundNext ≡ DisconnectedNext → ⊥
    apart e = cc
last_notice allows c first now s t read written given DisconnectedNext none fault w r is =
    ends_here message_lines allows c first now s read written (message_lines (notice ∷ [])) Disconnected r
    (inr (
      (refl, none, stopped_by s.framed.fault s.framed.rest fault),
      all_of r.responses (notice ∷
          []) written r.written_are,
    ))

-- a message, or what is none, is answered, and the session ends
pub last_answered : {D T : Type 0} (allows : D → Exchange T → D → Type 0) (c : ConfigValue) (old now e : D)
    (s0 s t : SessionValue) (o g h : Option (List ℕ)) (given : Answered) (next : Next) →
    SoFar allows c old now s0 s o g → Answered1 allows c s t now e given → Appends g h (hex_lines given.responses) →
    given.next ≡ next → (next ≡ GoesOn → ⊥) →
    HasWorked allows c old e s0 t o h next
last_answered allows c old now e s0 s t o g h given next w (inl a) put is apart = record {
  more = w.more ++ message_lines a.reaction.responses;
  appended = Appends-trans o g h w.more _ w.appended (subst (λ (l : List ℕ). Appends g h l)
      (lines_are given a.reaction.responses a.reaction.next a.written) put);
  comes = λ first read written r.
      subst (λ (l : List ℕ). ComesTo allows c first e t read l next)
      (append_assoc written w.more (message_lines a.reaction.responses))
      (last_answer allows c first now e s t read (written ++ w.more) given next a (w.comes first read written r) is
      apart);
}
last_answered allows c old now e s0 s t o g h given next w (inr (idle, fault, wr)) put is apart = record {
  more = w.more ++ message_lines (notice ∷ []);
  appended = Appends-trans o g h w.more _ w.appended (subst (λ (l : List ℕ). Appends g h l)
      (lines_are given (notice ∷ []) DisconnectedNext wr) put);
  comes = λ first read written r.
      subst (λ (l : List ℕ). ComesTo allows c first e t read l next)
      (append_assoc written w.more (message_lines (notice ∷ [])))
      (subst (λ (x : _). ComesTo allows c first x t read ((written ++ w.more) ++ message_lines (notice ∷ [])) next)
      (sym idle.untouched)
      (last_notice allows c first now s t read (written ++ w.more) given next idle.none fault wr
      (w.comes first read written r) is));
}

-- what an end by a fault of answering or writing says
due_end : (fault : LineFault) (next : Next) (more : List MessageValue) (ending : Ending) (rs : List MessageValue)
    (written : List ℕ) → IsWriteFault fault →
    IsFrontDue message_lines next more ending rs written → IsEnd message_lines (end_of fault) next more ending rs
    written
due_end (BadHexLine number) next more ending rs written kind f = absurd kind
due_end CannotRead next more ending rs written kind f = absurd kind
due_end CannotWrite next more ending rs written kind f = f
due_end TooLong next more ending rs written kind f = f
due_end NoMemoryFault next more ending rs written kind f = f

-- the lines of an answer are cut off
cut_off : {D T : Type 0} (allows : D → Exchange T → D → Type 0) (c : ConfigValue) (first now e : D)
    (s t : SessionValue) (read written more : List ℕ) (given : Answered) (fault : LineFault) →
    Answered1 allows c s t now e given → IsWriteFault fault → IsFront more (hex_lines given.responses) →
    Reached message_lines allows c first now s read written →
    Ends message_lines allows c first e read (written ++ more) (end_of fault)
cut_off allows c first now e s t read written more given fault (inl a) kind front r =
    ends_with message_lines allows c first now e s t read written more a.reaction (end_of fault) a.takes r
    (due_end fault _ _ _ _ _ kind (inl (front_of message_lines messages_append r.responses a.reaction.responses
    written more r.written_are
    (subst (λ (l : List ℕ). IsFront more l) (lines_are given a.reaction.responses a.reaction.next a.written) front))))
cut_off allows c first now e s t read written more given fault (inr (idle, stopped, w)) kind front r =
    subst (λ (x : _). Ends message_lines allows c first x read (written ++ more) (end_of fault)) (sym idle.untouched)
    (ends_here message_lines allows c first now s read written more (end_of fault) r
    (due_end fault _ _ _ _ _ kind (inr (
      (refl, idle.none, stopped_by s.framed.fault s.framed.rest stopped),
      front_of message_lines messages_append r.responses (notice ∷ []) written more r.written_are
          (subst (λ (l : List ℕ). IsFront more l) (lines_are given (notice ∷ []) DisconnectedNext w) front),
    ))))

-- an answer can't be written
pub not_put : {D T : Type 0} (allows : D → Exchange T → D → Type 0) (c : ConfigValue) (old now e : D)
    (s0 s t : SessionValue) (o g h : Option (List ℕ)) (given : Answered) (fault : LineFault) →
    SoFar allows c old now s0 s o g → Answered1 allows c s t now e given → IsCutOff g h (hex_lines given.responses)
    fault → HasFailed allows c old e s0 o h fault
not_put allows c old now e s0 s t o g h given fault w a cut = record {
  kind = cut.kind;
  more = w.more ++ cut.taken;
  appended = Appends-trans o g h w.more cut.taken w.appended cut.appended;
  comes = λ first read written r.
      subst (λ (l : List ℕ). Ends message_lines allows c first e read l (end_of fault))
      (append_assoc written w.more cut.taken)
      (cut_off allows c first now e s t read (written ++ w.more) cut.taken given fault a cut.kind cut.front
      (w.comes first read written r));
}

-- a session that stands somewhere ends there, by a fault of writing
ends_by : {D T : Type 0} (allows : D → Exchange T → D → Type 0) (c : ConfigValue) (first d : D) (s : SessionValue)
    (read written : List ℕ) (fault : LineFault) → IsWriteFault fault →
    Reached message_lines allows c first d s read written → Ends message_lines allows c first d read written
    (end_of fault)
ends_by allows c first d s read written fault kind r =
    subst (λ (l : List ℕ). Ends message_lines allows c first d read l (end_of fault)) (append-nil written)
    (ends_here message_lines allows c first d s read written [] (end_of fault) r
    (due_end fault _ _ _ _ _ kind (inl (whole_front (message_lines r.responses) written r.written_are))))

-- a message can't be answered
pub not_answered : {D T : Type 0} (allows : D → Exchange T → D → Type 0) (c : ConfigValue) (old now e : D)
    (s0 s t : SessionValue) (o g : Option (List ℕ)) (error : AnswerError) (fault : LineFault) →
    SoFar allows c old now s0 s o g → Answers allows c s t now e (Err error) → IsWriteFault fault →
    HasFailed allows c old e s0 o g fault
not_answered allows c old now e s0 s t o g error fault w (inl a) kind = record {
  kind = kind;
  more = w.more;
  appended = w.appended;
  comes = λ first read written r.
      let x = w.comes first read written r in
      subst (λ (l : List ℕ). Ends message_lines allows c first e read l (end_of fault)) (append-nil (written ++ w.more))
      (ends_with message_lines allows c first now e s t read (written ++ w.more) [] a.reaction (end_of fault) a.takes x
      (due_end fault _ _ _ _ _ kind (inl (front_of message_lines messages_append x.responses a.reaction.responses
      (written ++ w.more) [] x.written_are (no_front (message_lines a.reaction.responses))))));
}
not_answered allows c old now e s0 s t o g error fault w (inr (idle, stopped, apart)) kind = record {
  kind = kind;
  more = w.more;
  appended = w.appended;
  comes = λ first read written r.
      subst (λ (y : _). Ends message_lines allows c first y read (written ++ w.more) (end_of fault))
      (sym idle.untouched)
      (ends_by allows c first now s read (written ++ w.more) fault kind (w.comes first read written r));
}

-- there is no memory for a piece
pub not_fed : {D T : Type 0} (allows : D → Exchange T → D → Type 0) (c : ConfigValue) (d : D) (s : SessionValue)
    (piece : List ℕ) (o : Option (List ℕ)) → HasFailedAt allows c d d s piece o o NoMemoryFault
not_fed allows c d s piece o = record {
  kind = tt;
  taken = [];
  takes = inr (refl, refl);
  more = [];
  appended = Appends-nil o;
  comes = λ first read written r.
      subst (λ (l : List ℕ). Ends message_lines allows c first d l (written ++ []) NoMemory) (sym (append-nil read))
      (subst (λ (l : List ℕ). Ends message_lines allows c first d read l NoMemory) (sym (append-nil written))
      (ends_by allows c first d s read written NoMemoryFault tt r));
}

-- a piece is taken, and its answers end by a fault
pub fed_failed : {D T : Type 0} (allows : D → Exchange T → D → Type 0) (c : ConfigValue) (old now : D)
    (s u : SessionValue) (piece : List ℕ) (o g : Option (List ℕ)) (fault : LineFault) →
    HasTaken s u piece → u.state ≡ s.state → HasFailed allows c old now u o g fault → HasFailedAt allows c old now s
    piece o g fault
fed_failed allows c old now s u piece o g fault taken state w = record {
  kind = w.kind;
  taken = piece;
  takes = inl refl;
  more = w.more;
  appended = w.appended;
  comes = λ first read written r. w.comes first (read ++ piece) written (piece_reached message_lines allows c first
      old s u piece read written taken state r);
}

-- a piece is taken and answered, and the output can't be flushed
pub fed_not_flushed : {D T : Type 0} (allows : D → Exchange T → D → Type 0) (c : ConfigValue) (old now : D)
    (s u t : SessionValue) (piece : List ℕ) (o g h : Option (List ℕ)) (next : Next) (fault : LineFault) →
    HasTaken s u piece → u.state ≡ s.state → HasWorked allows c old now u t o g next → HasNotFlushed g h next fault →
    HasFailedAt allows c old now s piece o h fault
fed_not_flushed allows c old now s u t piece o g h next fault taken state w f = record {
  kind = subst (λ (x : LineFault). IsWriteFault x) (sym f.cause) tt;
  taken = piece;
  takes = inl refl;
  more = w.more;
  appended = subst (λ (l : List ℕ). Appends o h l) (append-nil w.more) (Appends-trans o g h w.more [] w.appended
      f.appended);
  comes = λ first read written r.
      ends_by allows c first now t (read ++ piece) (written ++ w.more) fault
      (subst (λ (x : LineFault). IsWriteFault x) (sym f.cause) tt)
      (subst (λ (n : Next). ComesTo allows c first now t (read ++ piece) (written ++ w.more) n) f.goes
      (w.comes first (read ++ piece) written (piece_reached message_lines allows c first old s u piece read written
      taken state r))).0;
}

-- a piece is taken, and answered
pub fed : {D T : Type 0} (allows : D → Exchange T → D → Type 0) (c : ConfigValue) (old now : D) (s u t : SessionValue)
    (piece : List ℕ) (o g h : Option (List ℕ)) (next after : Next) →
    HasTaken s u piece → u.state ≡ s.state → HasWorked allows c old now u t o g next → HasFlushed g h next after →
    HasFed allows c old now s t piece o h after
fed allows c old now s u t piece o g h next after taken state w f = record {
  more = w.more;
  appended = subst (λ (l : List ℕ). Appends o h l) (append-nil w.more) (Appends-trans o g h w.more [] w.appended
      f.appended);
  comes = λ first read written r.
      subst (λ (n : Next). ComesTo allows c first now t (read ++ piece) (written ++ w.more) n) (sym f.same)
      (w.comes first (read ++ piece) written (piece_reached message_lines allows c first old s u piece read written
      taken state r));
}

-- the same, as the flush comes out
pub fed_if : {D T : Type 0} (allows : D → Exchange T → D → Type 0) (c : ConfigValue) (old now : D)
    (s u t : SessionValue) (piece : List ℕ) (o g h : Option (List ℕ)) (next : Next) (r : Result Next LineFault) →
    HasTaken s u piece → u.state ≡ s.state → HasWorked allows c old now u t o g next →
    IfOk r (λ after. HasFlushed g h next after) → IfOk r (λ after. HasFed allows c old now s t piece o h after)
fed_if allows c old now s u t piece o g h next (Ok after) taken state w f = fed allows c old now s u t piece o g h
    next after taken state w f
fed_if allows c old now s u t piece o g h next (Err fault) taken state w f = tt

pub not_flushed_if : {D T : Type 0} (allows : D → Exchange T → D → Type 0) (c : ConfigValue) (old now : D)
    (s u t : SessionValue) (piece : List ℕ) (o g h : Option (List ℕ)) (next : Next) (r : Result Next LineFault) →
    HasTaken s u piece → u.state ≡ s.state → HasWorked allows c old now u t o g next →
    IfErr r (λ fault. HasNotFlushed g h next fault) → IfErr r (λ fault. HasFailedAt allows c old now s piece o h
    fault)
not_flushed_if allows c old now s u t piece o g h next (Ok after) taken state w f = tt
not_flushed_if allows c old now s u t piece o g h next (Err fault) taken state w f = fed_not_flushed allows c old now
    s u t piece o g h next fault taken state w f
