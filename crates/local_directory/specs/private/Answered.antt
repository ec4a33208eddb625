-- What a session over lines of hex comes to: what contracts that aren't public say of it.
-- What public contracts say is in specs/Answered.
use Rattle.std.specs.Prelude.{◌≡◌, ◌⊎◌, ℕ, List, [], ◌++◌, Option}
use Rattle.std.specs.Io.KnownBytes.{Appends}
use Rattle.ldap_session.specs.directory_api.Talk.{Exchange}
use Rattle.ldap_session.specs.session_handler.Session.{ConfigValue}
use Rattle.ldap_session.specs.session_handler.declared.answered.Answered.{Answered}
use Rattle.ldap_session.specs.session_handler.declared.answered.Next.{Next}
use Rattle.ldap_session.specs.session_handler.declared.answered.Next.TheVariants.{GoesOn, Unbound as UnboundNext, Disconnected as DisconnectedNext}
use Rattle.ldap_session.specs.View.{SessionValue}
use Rattle.ldap_session.specs.Progress.{Reached, IsAtLast}
use Rattle.ldap_session.specs.Serving.{IsCaughtUp, Ends}
use Rattle.ldap_session.specs.declared.end.SessionEnd.{SessionEnd}
use Rattle.ldap_session.specs.declared.end.SessionEnd.TheVariants.{Unbound, EndOfInput, Truncated, Disconnected, ReadFailed, WriteFailed, NoMemory}
use Rattle.local_directory.specs.Lines.{message_lines}
use Rattle.local_directory.specs.private.Lines.{hex_lines}
use Rattle.local_directory.specs.Faults.{IsWriteFault, end_of}
use Rattle.local_directory.specs.declared.line.Line.{Line}
use Rattle.local_directory.specs.declared.line.Line.TheVariants.{End, Blank, Piece}
use Rattle.local_directory.specs.declared.answering.Flow.{Flow}
use Rattle.local_directory.specs.declared.answering.Flow.TheVariants.{Goes, Ends as EndsWith}
use Rattle.local_directory.specs.declared.line_fault.LineFault.{LineFault}
use Rattle.local_directory.specs.declared.line_fault.LineFault.TheVariants.{CannotWrite, NoMemory as NoMemoryFault}
use Rattle.local_directory.specs.Answered.{IsProperEnd}

-- what a session comes to: it is caught up and goes on, or it has ended
abbrev pub ComesTo : {D T : Type 0} → (D → Exchange T → D → Type 0) → ConfigValue → D → D → SessionValue → List ℕ →
    List ℕ → Next → Type 0
ComesTo allows c d e s read written GoesOn = Reached message_lines allows c d e s read written × IsCaughtUp s
ComesTo allows c d e s read written UnboundNext = Ends message_lines allows c d e read written Unbound
ComesTo allows c d e s read written DisconnectedNext = Ends message_lines allows c d e read written Disconnected

-- what a message is answered with is written, each response a line
pub record HasPut (output grown : Option (List ℕ)) (given : Answered) (next : Next) : Type 0 where
  pub appended : Appends output grown (hex_lines given.responses)
  pub goes : given.next ≡ next

-- Wherever a session stood, it has written more lines, and comes to this.
pub record HasWorked {D T : Type 0} (allows : D → Exchange T → D → Type 0) (c : ConfigValue) (old now : D)
    (s t : SessionValue) (output grown : Option (List ℕ)) (next : Next) : Type 0 where
  pub more : List ℕ
  pub appended : Appends output grown more
  pub comes : (first : D) (read written : List ℕ) → Reached message_lines allows c first old s read written →
      ComesTo allows c first now t read (written ++ more) next

-- Wherever a session stood, its answers end by this fault, and it has written more lines, or a front of them.
pub record HasFailed {D T : Type 0} (allows : D → Exchange T → D → Type 0) (c : ConfigValue) (old now : D)
    (s : SessionValue) (output grown : Option (List ℕ)) (fault : LineFault) : Type 0 where
  pub kind : IsWriteFault fault
  pub more : List ℕ
  pub appended : Appends output grown more
  pub comes : (first : D) (read written : List ℕ) → Reached message_lines allows c first old s read written →
      Ends message_lines allows c first now read (written ++ more) (end_of fault)

-- The same of either, where it has read a piece before; the piece is not taken, where memory is wanting for it.
pub record HasFailedAt {D T : Type 0} (allows : D → Exchange T → D → Type 0) (c : ConfigValue) (old now : D)
    (s : SessionValue) (piece : List ℕ) (output grown : Option (List ℕ)) (fault : LineFault) : Type 0 where
  pub kind : IsWriteFault fault
  pub taken : List ℕ
  pub takes : (taken ≡ piece) ⊎ ((taken ≡ []) × (fault ≡ NoMemoryFault))
  pub more : List ℕ
  pub appended : Appends output grown more
  pub comes : (first : D) (read written : List ℕ) → Reached message_lines allows c first old s read written →
      Ends message_lines allows c first now (read ++ taken) (written ++ more) (end_of fault)

-- after a line's octets were fed: what was written is appended, and all that was read and written so far is what the
-- session comes to
pub record HasFed {D T : Type 0} (allows : D → Exchange T → D → Type 0) (c : ConfigValue) (old now : D)
    (s t : SessionValue) (piece : List ℕ) (output grown : Option (List ℕ)) (next : Next) : Type 0 where
  pub more : List ℕ
  pub appended : Appends output grown more
  pub comes : (first : D) (read written : List ℕ) → Reached message_lines allows c first old s read written →
      ComesTo allows c first now t (read ++ piece) (written ++ more) next

-- which last word ends a session so
abbrev pub EndsBy : SessionEnd → Next → Type 0
EndsBy Unbound next = next ≡ UnboundNext
EndsBy EndOfInput next = ⊥
EndsBy Truncated next = ⊥
EndsBy Disconnected next = next ≡ DisconnectedNext
EndsBy ReadFailed next = ⊥
EndsBy WriteFailed next = ⊥
EndsBy NoMemory next = ⊥

-- the same of a flow that ends
abbrev pub EndsProperly : Flow → Type 0
EndsProperly Goes = Unit {0}
EndsProperly (EndsWith end) = IsProperEnd end

-- nothing has changed
pub record IsUntouched {D : Type 0} (d e : D) (s t : SessionValue) (output grown : Option (List ℕ)) : Type 0 where
  pub directory : e ≡ d
  pub session : t ≡ s
  pub output_is : grown ≡ output

-- What a line makes of a session: it ends with the input, an empty line changes nothing, a piece is taken and answered.
abbrev pub Takes : {D T : Type 0} → (D → Exchange T → D → Type 0) → ConfigValue → D → D → SessionValue →
    SessionValue → Line → Option (List ℕ) → Option (List ℕ) → Flow → Type 0
Takes allows c d e s t End output grown Goes = ⊥
Takes allows c d e s t End output grown (EndsWith end) = IsAtLast s end × IsUntouched d e s t output grown
Takes allows c d e s t Blank output grown Goes = IsUntouched d e s t output grown
Takes allows c d e s t Blank output grown (EndsWith end) = ⊥
Takes allows c d e s t (Piece v) output grown Goes = HasFed allows c d e s t v.items output grown GoesOn
Takes allows c d e s t (Piece v) output grown (EndsWith end) = (next : Next) × EndsBy end next
    × HasFed allows c d e s t v.items output grown next

-- what is written goes on its way, and nothing else changes
pub record HasFlushed (output grown : Option (List ℕ)) (before after : Next) : Type 0 where
  pub appended : Appends output grown []
  pub same : after ≡ before

-- the output can't be flushed, where the session would go on
pub record HasNotFlushed (output grown : Option (List ℕ)) (before : Next) (fault : LineFault) : Type 0 where
  pub appended : Appends output grown []
  pub goes : before ≡ GoesOn
  pub cause : fault ≡ CannotWrite

-- what a line makes of a session whose answers end by a fault: it is a piece, and taken, but for want of memory
abbrev pub FailsAt : {D T : Type 0} → (D → Exchange T → D → Type 0) → ConfigValue → D → D → SessionValue → Line →
    Option (List ℕ) → Option (List ℕ) → LineFault → Type 0
FailsAt allows c d e s End output grown fault = ⊥
FailsAt allows c d e s Blank output grown fault = ⊥
FailsAt allows c d e s (Piece v) output grown fault = HasFailedAt allows c d e s v.items output grown fault
