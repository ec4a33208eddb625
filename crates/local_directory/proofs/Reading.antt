-- Sessions over lines, a line at a time.
use Rattle.std.proofs.Common.{◌≡◌, ◌⊎◌, inl, inr, ℕ, suc, ◌+◌, List, Vec, Global, arith, [], ◌∷◌, ◌++◌, Option, None, Some, Result, Ok, Err, IfOk, IfErr, IfSome, refl, ap, sym, subst, ◌∙◌, append_assoc, append-nil}
use Rattle.std.specs.Io.KnownBytes.{Appends}
use Rattle.ldap_session.specs.ldap_framer.Framed.{ending_of, HasSeen}
use Rattle.ldap_session.specs.ldap_msg.Messages.{MessageValue}
use Rattle.ldap_session.specs.directory_api.Talk.{Exchange}
use Rattle.ldap_session.specs.directory_api.Talk as talk
use Rattle.ldap_session.specs.session_handler.Session.{ConfigValue, at_first}
use Rattle.ldap_session.specs.session_handler.Turns.{Session, ends}
use Rattle.ldap_session.specs.session_handler.declared.state.State.{State}
use Rattle.ldap_session.specs.session_handler.declared.answered.Next.{Next}
use Rattle.ldap_session.specs.session_handler.declared.answered.Next.TheVariants.{GoesOn}
use Rattle.ldap_session.specs.Octets.{joined}
use Rattle.ldap_session.specs.View.{SessionValue}
use Rattle.ldap_session.specs.Progress.{Reached, IsAtLast}
use Rattle.ldap_session.specs.Serving.{IsCaughtUp, IsEnd, Ends}
use Rattle.ldap_session.specs.declared.end.SessionEnd.{SessionEnd}
use Rattle.ldap_session.specs.declared.end.SessionEnd.TheVariants.{Unbound, EndOfInput, Truncated, Disconnected, ReadFailed, WriteFailed, NoMemory}
use Rattle.ldap_session.proofs.Written.{joined_append, whole_front}
use Rattle.ldap_session.proofs.Progressed.{ends_here}
use Rattle.ldap_session.proofs.Served.{awaiting, last}
use Rattle.local_directory.specs.Lines.{after_line, after_lines, Spell, stops, skips, spells, message_lines}
use Rattle.local_directory.specs.private.Lines.{BeginsWith}
use Rattle.local_directory.specs.Faults.{IsReadFault, IsWriteFault, end_of}
use Rattle.local_directory.specs.private.Faults.{IsLineFault}
use Rattle.local_directory.specs.Answered.{IsAllRead, IsAnswered, Answers, IsCause, IsCutShort, Fails}
use Rattle.local_directory.specs.private.Answered.{ComesTo, HasFed, HasFailedAt, EndsBy, IsUntouched, Takes, FailsAt}
use Rattle.local_directory.specs.declared.line.Line.{Line}
use Rattle.local_directory.specs.declared.line.Line.TheVariants.{End, Blank, Piece}
use Rattle.local_directory.specs.declared.answering.Flow.{Flow}
use Rattle.local_directory.specs.declared.answering.Flow.TheVariants.{Goes, Ends as EndsWith}
use Rattle.local_directory.specs.declared.line_fault.LineFault.{LineFault}
use Rattle.local_directory.specs.declared.line_fault.LineFault.TheVariants.{BadHexLine, CannotRead, CannotWrite, TooLong, NoMemory as NoMemoryFault}

spell_then : (xs ys zs : List ℕ) (ms ns : List (List ℕ)) → Spell xs ms ys → Spell ys ns zs → Spell xs (ms ++ ns) zs
spell_then xs ys zs ms ns stops second = second
spell_then xs ys zs ms ns (skips a b rest) second = skips a b (spell_then (after_line xs) ys zs ms ns rest second)
spell_then xs ys zs ms ns (spells {ms = later} m a b rest) second = spells m a b (spell_then (after_line xs) ys zs
    later ns rest second)

-- lines that are answered, where the session goes on and the line of this number is next
pub record Lines {D T : Type 0} (allows : D → Exchange T → D → Type 0) (c : ConfigValue) (d e : D) (s : SessionValue)
    (xs : List ℕ) (left : Option (List ℕ)) (ys : List ℕ) (grown : Option (List ℕ)) (number : ℕ) : Type 0 where
  pub before : ℕ
  pub pieces : List (List ℕ)
  pub more : List ℕ
  pub numbered : number ≡ suc before
  pub left_is : left ≡ Some (after_lines before xs)
  pub grown_is : grown ≡ Some (ys ++ more)
  pub spell : Spell xs pieces (after_lines before xs)
  pub reached : Reached message_lines allows c d e s (joined pieces) more
  pub caught_up : IsCaughtUp s

abbrev pub LinesSoFar : {D T : Type 0} → (D → Exchange T → D → Type 0) → ConfigValue → D → D → SessionValue →
    Option (List ℕ) → Option (List ℕ) → Option (List ℕ) → Option (List ℕ) → ℕ → Type 0
LinesSoFar allows c d e s input left output grown number = IfSome input
    (λ xs. IfSome output (λ ys. Lines allows c d e s xs left ys grown number))

-- nothing is read yet
pub begun : {D T : Type 0} (allows : D → Exchange T → D → Type 0) (c : ConfigValue) (d : D) (s : SessionValue)
    (i o : Option (List ℕ)) →
    HasSeen s.framed [] [] → s.framed.ready ≡ [] → s.framed.fault ≡ None → s.state ≡ at_first →
    LinesSoFar allows c d d s i i o o 1
begun allows c d s None o seen ready fault state = tt
begun allows c d s (Some xs) None seen ready fault state = tt
begun {D} {T} allows c d s (Some xs) (Some ys) seen ready fault state = record {
  before = 0;
  pieces = [];
  more = [];
  numbered = refl;
  left_is = refl;
  grown_is = ap Some (sym (append-nil ys));
  spell = stops;
  reached = record {
    handed = [];
    talk = [];
    responses = [];
    seen = seen;
    session = subst (λ (x : State). Session {T = T} c at_first [] [] x [] GoesOn) (sym state) ends;
    along = talk.ends;
    written_are = refl;
  };
  caught_up = record { none_ready = ready; no_fault = fault };
}

-- what is said of the octets that are left
of_left : (b : Option (List ℕ)) (rest : List ℕ) (P : List ℕ → Type 0) → b ≡ Some rest → IfSome b P → P rest
of_left b rest P e h = subst (λ (x : Option (List ℕ)). IfSome x P) e h

one_further : (n b : ℕ) → n ≡ suc b → n + 1 ≡ suc (suc b)
one_further n b e = omega arith

grown_to : (w v : Option (List ℕ)) (ys more lines : List ℕ) → w ≡ Some (ys ++ more) → Appends w v lines →
    v ≡ Some (ys ++ (more ++ lines))
grown_to None v ys more lines e h = absurd (cc)
grown_to (Some x) None ys more lines e h = absurd h
grown_to (Some x) (Some y) ys more lines e h = let same : x ≡ ys ++ more = cc in ap Some
    (h ∙ ap (λ (l : List ℕ). l ++ lines) same ∙ append_assoc ys more lines)

-- the stream so far with one piece more
stream_more : (pieces : List (List ℕ)) (piece : List ℕ) → joined pieces ++ piece ≡ joined (pieces ++ piece ∷ [])
stream_more pieces piece = ap (λ (l : List ℕ). joined pieces ++ l) (sym (append-nil piece))
    ∙ sym (joined_append pieces (piece ∷ []))

-- an empty line
skipped : {D T : Type 0} (allows : D → Exchange T → D → Type 0) (c : ConfigValue) (first d e : D) (s t : SessionValue)
    (xs ys : List ℕ) (b left w v : Option (List ℕ)) (n : ℕ) →
    Lines allows c first d s xs b ys w n → IfSome b (λ zs. BeginsWith zs Blank left) → IsUntouched d e s t w v →
    Lines allows c first e t xs left ys v (n + 1)
skipped allows c first d e s t xs ys b left w v n h begins u =
    let k : BeginsWith (after_lines h.before xs) Blank left = of_left b (after_lines h.before xs)
    (λ (zs : List ℕ). BeginsWith zs Blank left) h.left_is begins in record {
      before = suc h.before;
      pieces = h.pieces ++ [];
      more = h.more;
      numbered = one_further n h.before h.numbered;
      left_is = k.2;
      grown_is = u.output_is ∙ h.grown_is;
      spell = spell_then xs (after_lines h.before xs) (after_line (after_lines h.before xs)) h.pieces [] h.spell
          (skips k.0 k.1 stops);
      reached =
          subst (λ (ps : List (List ℕ)). Reached message_lines allows c first e t (joined ps) h.more)
          (sym (append-nil h.pieces))
          (subst (λ (x : _). Reached message_lines allows c first x t (joined h.pieces) h.more) (sym u.directory)
          (subst (λ (x : SessionValue). Reached message_lines allows c first d x (joined h.pieces) h.more)
          (sym u.session) h.reached));
      caught_up = subst (λ (x : SessionValue). IsCaughtUp x) (sym u.session) h.caught_up;
    }

-- a line that is a piece, after which the session goes on
answered : {D T : Type 0} (allows : D → Exchange T → D → Type 0) (c : ConfigValue) (first d e : D)
    (s t : SessionValue) (xs ys : List ℕ) (b left w v : Option (List ℕ)) (n : ℕ) (piece : Vec ℕ Global) →
    Lines allows c first d s xs b ys w n → IfSome b (λ zs. BeginsWith zs (Piece piece) left) →
    HasFed allows c d e s t piece.items w v GoesOn → Lines allows c first e t xs left ys v (n + 1)
answered allows c first d e s t xs ys b left w v n piece h begins f =
    let k : BeginsWith (after_lines h.before xs) (Piece piece) left = of_left b (after_lines h.before xs)
    (λ (zs : List ℕ). BeginsWith zs (Piece piece) left) h.left_is begins in
    let come : ComesTo allows c first e t (joined h.pieces ++ piece.items) (h.more ++ f.more) GoesOn = f.comes first
    (joined h.pieces) h.more h.reached in record {
      before = suc h.before;
      pieces = h.pieces ++ piece.items ∷ [];
      more = h.more ++ f.more;
      numbered = one_further n h.before h.numbered;
      left_is = k.3;
      grown_is = grown_to w v ys h.more f.more h.grown_is f.appended;
      spell = spell_then xs (after_lines h.before xs) (after_line (after_lines h.before xs)) h.pieces
          (piece.items ∷ []) h.spell (spells piece.items k.1 k.2 stops);
      reached = subst (λ (l : List ℕ). Reached message_lines allows c first e t l (h.more ++ f.more))
          (stream_more h.pieces piece.items) come.0;
      caught_up = come.1;
    }

goes_on : {D T : Type 0} (allows : D → Exchange T → D → Type 0) (c : ConfigValue) (first d e : D) (s t : SessionValue)
    (xs ys : List ℕ) (b left w v : Option (List ℕ)) (n : ℕ) (line : Line) →
    Lines allows c first d s xs b ys w n → IfSome b (λ zs. BeginsWith zs line left) → Takes allows c d e s t line w v
    Goes → Lines allows c first e t xs left ys v (n + 1)
goes_on allows c first d e s t xs ys b left w v n End h begins takes = absurd takes
goes_on allows c first d e s t xs ys b left w v n Blank h begins takes = skipped allows c first d e s t xs ys b left w
    v n h begins takes
goes_on allows c first d e s t xs ys b left w v n (Piece piece) h begins takes = answered allows c first d e s t xs ys
    b left w v n piece h begins takes

-- a line after which the session goes on
pub line_taken : {D T : Type 0} (allows : D → Exchange T → D → Type 0) (c : ConfigValue) (first d e : D)
    (s t : SessionValue) (i b left o w v : Option (List ℕ)) (n : ℕ) (line : Line) (flow : Flow) →
    LinesSoFar allows c first d s i b o w n → IfSome b (λ zs. BeginsWith zs line left) → Takes allows c d e s t line w
    v flow → flow ≡ Goes → LinesSoFar allows c first e t i left o v (n + 1)
line_taken allows c first d e s t None b left o w v n line flow h begins takes is = tt
line_taken allows c first d e s t (Some xs) b left None w v n line flow h begins takes is = tt
line_taken allows c first d e s t (Some xs) b left (Some ys) w v n line flow h begins takes is =
    goes_on allows c first d e s t xs ys b left w v n line h begins
    (subst (λ (f : Flow). Takes allows c d e s t line w v f) is takes)

-- what a line made of a session, as it came out
pub takes_as : {D T : Type 0} (allows : D → Exchange T → D → Type 0) (c : ConfigValue) (d e : D) (s t : SessionValue)
    (line : Line) (w v : Option (List ℕ)) (r : Result Flow LineFault) (flow to : Flow) →
    r ≡ Ok flow → flow ≡ to → IfOk r (λ f. Takes allows c d e s t line w v f) → Takes allows c d e s t line w v to
takes_as allows c d e s t line w v r flow to ok is h = subst (λ (x : Result Flow LineFault).
    IfOk x (λ f. Takes allows c d e s t line w v f)) (ok ∙ ap Ok is) h

-- the last word of a session that ends so
end_comes : {D T : Type 0} (allows : D → Exchange T → D → Type 0) (c : ConfigValue) (first e : D) (t : SessionValue)
    (read written : List ℕ) (next : Next) (end : SessionEnd) → EndsBy end next →
    ComesTo allows c first e t read written next → Ends message_lines allows c first e read written end
end_comes allows c first e t read written next Unbound by x = subst (λ (n : Next). ComesTo allows c first e t read
    written n) by x
end_comes allows c first e t read written next EndOfInput by x = absurd by
end_comes allows c first e t read written next Truncated by x = absurd by
end_comes allows c first e t read written next Disconnected by x = subst (λ (n : Next). ComesTo allows c first e t
    read written n) by x
end_comes allows c first e t read written next ReadFailed by x = absurd by
end_comes allows c first e t read written next WriteFailed by x = absurd by
end_comes allows c first e t read written next NoMemory by x = absurd by

not_all : (end : SessionEnd) (next : Next) (rest : List ℕ) → EndsBy end next → IsAllRead end rest
not_all Unbound next rest by = tt
not_all EndOfInput next rest by = absurd by
not_all Truncated next rest by = absurd by
not_all Disconnected next rest by = tt
not_all ReadFailed next rest by = absurd by
not_all WriteFailed next rest by = absurd by
not_all NoMemory next rest by = absurd by

-- a line that is a piece, with which the session ends
ended : {D T : Type 0} (allows : D → Exchange T → D → Type 0) (c : ConfigValue) (first d e : D) (s t : SessionValue)
    (xs ys : List ℕ) (b left w v : Option (List ℕ)) (n : ℕ) (piece : Vec ℕ Global) (end : SessionEnd) (next : Next) →
    Lines allows c first d s xs b ys w n → IfSome b (λ zs. BeginsWith zs (Piece piece) left) → EndsBy end next →
    HasFed allows c d e s t piece.items w v next → IsAnswered allows c first e xs left ys v end
ended allows c first d e s t xs ys b left w v n piece end next h begins by f =
    let k : BeginsWith (after_lines h.before xs) (Piece piece) left = of_left b (after_lines h.before xs)
    (λ (zs : List ℕ). BeginsWith zs (Piece piece) left) h.left_is begins in record {
      rest = after_line (after_lines h.before xs);
      pieces = h.pieces ++ piece.items ∷ [];
      more = h.more ++ f.more;
      left_is = k.3;
      grown_is = grown_to w v ys h.more f.more h.grown_is f.appended;
      spell = spell_then xs (after_lines h.before xs) (after_line (after_lines h.before xs)) h.pieces
          (piece.items ∷ []) h.spell (spells piece.items k.1 k.2 stops);
      all = not_all end next (after_line (after_lines h.before xs)) by;
      ends = subst (λ (l : List ℕ). Ends message_lines allows c first e l (h.more ++ f.more) end)
          (stream_more h.pieces piece.items)
          (end_comes allows c first e t (joined h.pieces ++ piece.items) (h.more ++ f.more) next end by
          (f.comes first (joined h.pieces) h.more h.reached));
    }

all_at_last : (end : SessionEnd) (s : SessionValue) (rest : List ℕ) → s.framed.fault ≡ None → IsAtLast s end →
    rest ≡ [] → IsAllRead end rest
all_at_last end s rest fault at none = by (at fault)
  where
    by : ((end ≡ EndOfInput) × (s.framed.rest ≡ [])) ⊎ ((end ≡ Truncated) × (s.framed.rest ≡ [] → ⊥)) →
        IsAllRead end rest
    by (inl (is, x)) = subst (λ (e : SessionEnd). IsAllRead e rest) (sym is) none
    by (inr (is, x)) = subst (λ (e : SessionEnd). IsAllRead e rest) (sym is) none

-- the end of the input
at_end : {D T : Type 0} (allows : D → Exchange T → D → Type 0) (c : ConfigValue) (first d e : D) (s t : SessionValue)
    (xs ys : List ℕ) (b left w v : Option (List ℕ)) (n : ℕ) (end : SessionEnd) →
    Lines allows c first d s xs b ys w n → IfSome b (λ zs. BeginsWith zs End left) → IsAtLast s end →
    IsUntouched d e s t w v → IsAnswered allows c first e xs left ys v end
at_end allows c first d e s t xs ys b left w v n end h begins at u =
    let k : BeginsWith (after_lines h.before xs) End left = of_left b (after_lines h.before xs)
    (λ (zs : List ℕ). BeginsWith zs End left) h.left_is begins in record {
      rest = after_lines h.before xs;
      pieces = h.pieces;
      more = h.more;
      left_is = k.1 ∙ ap Some (sym k.0);
      grown_is = u.output_is ∙ h.grown_is;
      spell = h.spell;
      all = all_at_last end s (after_lines h.before xs) h.caught_up.no_fault at k.0;
      ends = subst (λ (x : _). Ends message_lines allows c first x (joined h.pieces) h.more end) (sym u.directory)
          (last message_lines allows c first d s (joined h.pieces) h.more end at h.caught_up h.reached);
    }

ends_by_line : {D T : Type 0} (allows : D → Exchange T → D → Type 0) (c : ConfigValue) (first d e : D)
    (s t : SessionValue) (xs ys : List ℕ) (b left w v : Option (List ℕ)) (n : ℕ) (line : Line) (end : SessionEnd) →
    Lines allows c first d s xs b ys w n → IfSome b (λ zs. BeginsWith zs line left) → Takes allows c d e s t line w v
    (EndsWith end) → IsAnswered allows c first e xs left ys v end
ends_by_line allows c first d e s t xs ys b left w v n End end h begins takes = at_end allows c first d e s t xs ys b
    left w v n end h begins takes.0 takes.1
ends_by_line allows c first d e s t xs ys b left w v n Blank end h begins takes = absurd takes
ends_by_line allows c first d e s t xs ys b left w v n (Piece piece) end h begins takes = ended allows c first d e s t
    xs ys b left w v n piece end takes.0 h begins takes.1 takes.2

-- a line with which the session ends
pub line_ends : {D T : Type 0} (allows : D → Exchange T → D → Type 0) (c : ConfigValue) (first d e : D)
    (s t : SessionValue) (i b left o w v : Option (List ℕ)) (n : ℕ) (line : Line) (flow : Flow) (end : SessionEnd) →
    LinesSoFar allows c first d s i b o w n → IfSome b (λ zs. BeginsWith zs line left) → Takes allows c d e s t line w
    v flow → flow ≡ EndsWith end → Answers allows c first e i left o v end
line_ends allows c first d e s t None b left o w v n line flow end h begins takes is = tt
line_ends allows c first d e s t (Some xs) b left None w v n line flow end h begins takes is = tt
line_ends allows c first d e s t (Some xs) b left (Some ys) w v n line flow end h begins takes is =
    ends_by_line allows c first d e s t xs ys b left w v n line end h begins
    (subst (λ (f : Flow). Takes allows c d e s t line w v f) is takes)

-- what an end at a fault of reading says of a session that is caught up
caught_end : (fault : LineFault) (s : SessionValue) (rs : List MessageValue) (written : List ℕ) → IsReadFault fault →
    IsCaughtUp s → written ≡ message_lines rs →
    IsEnd message_lines (end_of fault) GoesOn s.framed.ready (ending_of s.framed.fault s.framed.rest) rs (written ++ [])
caught_end (BadHexLine number) s rs written kind caught are = absurd kind
caught_end CannotRead s rs written kind caught are =
    (refl, caught.none_ready, awaiting s.framed.fault s.framed.rest caught.no_fault, append-nil written ∙ are)
caught_end CannotWrite s rs written kind caught are = absurd kind
caught_end TooLong s rs written kind caught are = absurd kind
caught_end NoMemoryFault s rs written kind caught are = inl (whole_front (message_lines rs) written are)

bad_end : (s : SessionValue) (rs : List MessageValue) (written : List ℕ) → IsCaughtUp s → written ≡ message_lines rs →
    IsEnd message_lines ReadFailed GoesOn s.framed.ready (ending_of s.framed.fault s.framed.rest) rs (written ++ [])
bad_end s rs written caught are =
    (refl, caught.none_ready, awaiting s.framed.fault s.framed.rest caught.no_fault, append-nil written ∙ are)

-- lines that are answered, up to one that can't be read
cut_short : {D T : Type 0} (allows : D → Exchange T → D → Type 0) (c : ConfigValue) (first d : D) (s : SessionValue)
    (xs ys : List ℕ) (b w : Option (List ℕ)) (n : ℕ) (fault : LineFault) →
    (h : Lines allows c first d s xs b ys w n) → IsCause fault h.before (after_lines h.before xs) →
    IsEnd message_lines (end_of fault) GoesOn s.framed.ready (ending_of s.framed.fault s.framed.rest)
    h.reached.responses (h.more ++ []) → IsCutShort allows c first d xs ys w fault
cut_short allows c first d s xs ys b w n fault h cause is = record {
  before = h.before;
  pieces = h.pieces;
  more = h.more;
  spell = h.spell;
  grown_is = h.grown_is;
  ends =
      subst (λ (l : List ℕ). Ends message_lines allows c first d (joined h.pieces) l (end_of fault)) (append-nil h.more)
      (ends_here message_lines allows c first d s (joined h.pieces) h.more [] (end_of fault) h.reached is);
  cause = cause;
}

no_cause : (fault : LineFault) (before : ℕ) (rest : List ℕ) → IsReadFault fault → IsCause fault before rest
no_cause (BadHexLine number) before rest kind = absurd kind
no_cause CannotRead before rest kind = tt
no_cause CannotWrite before rest kind = absurd kind
no_cause TooLong before rest kind = absurd kind
no_cause NoMemoryFault before rest kind = tt

-- the input can't be read any further, or there is no memory for a line
pub unread : {D T : Type 0} (allows : D → Exchange T → D → Type 0) (c : ConfigValue) (first d : D) (s : SessionValue)
    (i b o w : Option (List ℕ)) (n : ℕ) (fault : LineFault) →
    LinesSoFar allows c first d s i b o w n → IsReadFault fault → Fails allows c first d i o w fault
unread allows c first d s None b o w n fault h kind = tt
unread allows c first d s (Some xs) b None w n fault h kind = tt
unread allows c first d s (Some xs) b (Some ys) w n fault h kind =
    cut_short allows c first d s xs ys b w n fault h (no_cause fault h.before (after_lines h.before xs) kind)
    (caught_end fault s h.reached.responses h.more kind h.caught_up h.reached.written_are)

-- the next line is no hex
bad_line : {D T : Type 0} (allows : D → Exchange T → D → Type 0) (c : ConfigValue) (first d : D) (s : SessionValue)
    (i b o w : Option (List ℕ)) (n named : ℕ) →
    LinesSoFar allows c first d s i b o w n → IfSome b (λ zs. IsLineFault zs n (BadHexLine named)) →
    Fails allows c first d i o w (BadHexLine named)
bad_line allows c first d s None b o w n named h bad = tt
bad_line allows c first d s (Some xs) b None w n named h bad = tt
bad_line allows c first d s (Some xs) b (Some ys) w n named h bad =
    let k : IsLineFault (after_lines h.before xs) n (BadHexLine named) = of_left b (after_lines h.before xs)
    (λ (zs : List ℕ). IsLineFault zs n (BadHexLine named)) h.left_is bad in
    cut_short allows c first d s xs ys b w n (BadHexLine named) h (k.0 ∙ h.numbered, k.1)
    (bad_end s h.reached.responses h.more h.caught_up h.reached.written_are)

-- where the octets that are left are known, what is said of them
not_line : {D T : Type 0} (allows : D → Exchange T → D → Type 0) (c : ConfigValue) (first d : D) (s : SessionValue)
    (i b o w : Option (List ℕ)) (n : ℕ) (fault : LineFault) →
    LinesSoFar allows c first d s i b o w n → IfSome b (λ zs. ⊥) → Fails allows c first d i o w fault
not_line allows c first d s None b o w n fault h bad = tt
not_line allows c first d s (Some xs) b None w n fault h bad = tt
not_line allows c first d s (Some xs) b (Some ys) w n fault h bad = absurd (of_left b (after_lines h.before xs)
    (λ (zs : List ℕ). ⊥) h.left_is bad)

-- a fault of reading the next line
pub line_fails : {D T : Type 0} (allows : D → Exchange T → D → Type 0) (c : ConfigValue) (first d : D)
    (s : SessionValue) (i b o w : Option (List ℕ)) (n : ℕ) (fault : LineFault) →
    LinesSoFar allows c first d s i b o w n → IfSome b (λ zs. IsLineFault zs n fault) → Fails allows c first d i o w
    fault
line_fails allows c first d s i b o w n (BadHexLine named) h bad = bad_line allows c first d s i b o w n named h bad
line_fails allows c first d s i b o w n CannotRead h bad = unread allows c first d s i b o w n CannotRead h tt
line_fails allows c first d s i b o w n CannotWrite h bad = not_line allows c first d s i b o w n CannotWrite h bad
line_fails allows c first d s i b o w n TooLong h bad = not_line allows c first d s i b o w n TooLong h bad
line_fails allows c first d s i b o w n NoMemoryFault h bad = unread allows c first d s i b o w n NoMemoryFault h tt

-- the same, as it is handed on
pub line_fails_as : {D T : Type 0} (allows : D → Exchange T → D → Type 0) (c : ConfigValue) (first d : D)
    (s : SessionValue) (i b o w : Option (List ℕ)) (n : ℕ) (r : Result SessionEnd LineFault)
    (handed fault : LineFault) →
    r ≡ Err handed → handed ≡ fault → LinesSoFar allows c first d s i b o w n →
    IfSome b (λ zs. IsLineFault zs n fault) → IfErr r (λ f. Fails allows c first d i o w f)
line_fails_as allows c first d s i b o w n r handed fault err is h bad =
    subst (λ (x : Result SessionEnd LineFault). IfErr x (λ f. Fails allows c first d i o w f)) (sym (err ∙ ap Err is))
    (line_fails allows c first d s i b o w n fault h bad)

write_cause : (fault : LineFault) (before : ℕ) (rest : List ℕ) → IsWriteFault fault → IsCause fault before rest
write_cause (BadHexLine number) before rest kind = absurd kind
write_cause CannotRead before rest kind = absurd kind
write_cause CannotWrite before rest kind = tt
write_cause TooLong before rest kind = tt
write_cause NoMemoryFault before rest kind = tt

-- a piece whose answers end by a fault; it counts as read where it was taken
piece_fails : {D T : Type 0} (allows : D → Exchange T → D → Type 0) (c : ConfigValue) (first d e : D)
    (s : SessionValue) (xs ys : List ℕ) (b left w v : Option (List ℕ)) (n : ℕ) (piece : Vec ℕ Global)
    (fault : LineFault) →
    Lines allows c first d s xs b ys w n → IfSome b (λ zs. BeginsWith zs (Piece piece) left) →
    HasFailedAt allows c d e s piece.items w v fault → IsCutShort allows c first e xs ys v fault
piece_fails {D} {T} allows c first d e s xs ys b left w v n piece fault h begins f = by f.takes
  where
    k : BeginsWith (after_lines h.before xs) (Piece piece) left
    k = of_left b (after_lines h.before xs) (λ (zs : List ℕ). BeginsWith zs (Piece piece) left) h.left_is begins

    come : Ends message_lines allows c first e (joined h.pieces ++ f.taken) (h.more ++ f.more) (end_of fault)
    come = f.comes first (joined h.pieces) h.more h.reached

    by : (f.taken ≡ piece.items) ⊎ ((f.taken ≡ []) × (fault ≡ NoMemoryFault)) → IsCutShort allows c first e xs ys v
        fault
    by (inl whole) = record {
      before = suc h.before;
      pieces = h.pieces ++ piece.items ∷ [];
      more = h.more ++ f.more;
      spell = spell_then xs (after_lines h.before xs) (after_line (after_lines h.before xs)) h.pieces
          (piece.items ∷ []) h.spell (spells piece.items k.1 k.2 stops);
      grown_is = grown_to w v ys h.more f.more h.grown_is f.appended;
      ends =
          subst (λ (l : List ℕ). Ends message_lines allows c first e l (h.more ++ f.more) (end_of fault))
          (ap (λ (l : List ℕ). joined h.pieces ++ l) whole ∙ stream_more h.pieces piece.items) come;
      cause = write_cause fault (suc h.before) (after_lines (suc h.before) xs) f.kind;
    }
    by (inr (none, x)) = record {
      before = h.before;
      pieces = h.pieces;
      more = h.more ++ f.more;
      spell = h.spell;
      grown_is = grown_to w v ys h.more f.more h.grown_is f.appended;
      ends =
          subst (λ (l : List ℕ). Ends message_lines allows c first e l (h.more ++ f.more) (end_of fault))
          (ap (λ (l : List ℕ). joined h.pieces ++ l) none ∙ append-nil (joined h.pieces)) come;
      cause = write_cause fault h.before (after_lines h.before xs) f.kind;
    }

fails_at : {D T : Type 0} (allows : D → Exchange T → D → Type 0) (c : ConfigValue) (first d e : D) (s : SessionValue)
    (xs ys : List ℕ) (b left w v : Option (List ℕ)) (n : ℕ) (line : Line) (fault : LineFault) →
    Lines allows c first d s xs b ys w n → IfSome b (λ zs. BeginsWith zs line left) → FailsAt allows c d e s line w v
    fault → IsCutShort allows c first e xs ys v fault
fails_at allows c first d e s xs ys b left w v n End fault h begins f = absurd f
fails_at allows c first d e s xs ys b left w v n Blank fault h begins f = absurd f
fails_at allows c first d e s xs ys b left w v n (Piece piece) fault h begins f = piece_fails allows c first d e s xs
    ys b left w v n piece fault h begins f

-- a fault of answering or writing
pub answer_fails : {D T : Type 0} (allows : D → Exchange T → D → Type 0) (c : ConfigValue) (first d e : D)
    (s : SessionValue) (i b left o w v : Option (List ℕ)) (n : ℕ) (line : Line) (fault : LineFault) →
    LinesSoFar allows c first d s i b o w n → IfSome b (λ zs. BeginsWith zs line left) → FailsAt allows c d e s line w
    v fault → Fails allows c first e i o v fault
answer_fails allows c first d e s None b left o w v n line fault h begins f = tt
answer_fails allows c first d e s (Some xs) b left None w v n line fault h begins f = tt
answer_fails allows c first d e s (Some xs) b left (Some ys) w v n line fault h begins f = fails_at allows c first d e
    s xs ys b left w v n line fault h begins f
