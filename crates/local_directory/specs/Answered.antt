-- What a session over lines of hex comes to. What a session makes of its stream is below.
use Rattle.std.specs.Prelude.{◌≡◌, ℕ, suc, List, [], ◌++◌, Option, Some, IfSome}
use Rattle.ldap_session.specs.directory_api.Talk.{Exchange}
use Rattle.ldap_session.specs.session_handler.Session.{ConfigValue}
use Rattle.ldap_session.specs.Octets.{joined}
use Rattle.ldap_session.specs.Serving.{Ends}
use Rattle.ldap_session.specs.declared.end.SessionEnd.{SessionEnd}
use Rattle.ldap_session.specs.declared.end.SessionEnd.TheVariants.{Unbound, EndOfInput, Truncated, Disconnected, ReadFailed, WriteFailed, NoMemory}
use Rattle.local_directory.specs.Lines.{Spell, message_lines, after_lines}
use Rattle.local_directory.specs.Faults.{IsBadLine, end_of}
use Rattle.local_directory.specs.declared.line_fault.LineFault.{LineFault}
use Rattle.local_directory.specs.declared.line_fault.LineFault.TheVariants.{BadHexLine, CannotRead, CannotWrite, TooLong, NoMemory as NoMemoryFault}

-- A session over lines ends with no fault: by the client, by the server, or where its input ends, between two messages
-- or inside one.
abbrev pub IsProperEnd : SessionEnd → Type 0
IsProperEnd Unbound = Unit {0}
IsProperEnd EndOfInput = Unit {0}
IsProperEnd Truncated = Unit {0}
IsProperEnd Disconnected = Unit {0}
IsProperEnd ReadFailed = ⊥
IsProperEnd WriteFailed = ⊥
IsProperEnd NoMemory = ⊥

-- Of what is left of an input, where a session ended so: nothing, where the input's end is what ended it. A read or a
-- write that fails, and want of memory, are no ends but faults.
abbrev pub IsAllRead : SessionEnd → List ℕ → Type 0
IsAllRead Unbound rest = Unit {0}
IsAllRead EndOfInput rest = rest ≡ []
IsAllRead Truncated rest = rest ≡ []
IsAllRead Disconnected rest = Unit {0}
IsAllRead ReadFailed rest = ⊥
IsAllRead WriteFailed rest = ⊥
IsAllRead NoMemory rest = ⊥

-- The lines at the front of an input spell the pieces of a stream, all of them unless something else ended the session;
-- the session over that stream has ended, along a talk with the directory, and the output has grown by its responses,
-- each a line.
pub record IsAnswered {D T : Type 0} (allows : D → Exchange T → D → Type 0) (c : ConfigValue) (d e : D) (xs : List ℕ)
    (left : Option (List ℕ)) (ys : List ℕ) (grown : Option (List ℕ)) (end : SessionEnd) : Type 0 where
  pub rest : List ℕ
  pub pieces : List (List ℕ)
  pub more : List ℕ
  pub left_is : left ≡ Some rest
  pub grown_is : grown ≡ Some (ys ++ more)
  pub spell : Spell xs pieces rest
  pub all : IsAllRead end rest
  pub ends : Ends message_lines allows c d e (joined pieces) more end

-- the same, where the octets of the input and the output are known
abbrev pub Answers : {D T : Type 0} → (D → Exchange T → D → Type 0) → ConfigValue → D → D → Option (List ℕ) →
    Option (List ℕ) → Option (List ℕ) → Option (List ℕ) → SessionEnd → Type 0
Answers allows c d e input left output grown end = IfSome input
    (λ xs. IfSome output (λ ys. IsAnswered allows c d e xs left ys grown end))

-- Which fault comes behind so many lines, where this is left: a line is named, counted from 1, that is no hex. Of the
-- others, what they are says why.
abbrev pub IsCause : LineFault → ℕ → List ℕ → Type 0
IsCause (BadHexLine number) before rest = (number ≡ suc before) × IsBadLine rest
IsCause CannotRead before rest = Unit {0}
IsCause CannotWrite before rest = Unit {0}
IsCause TooLong before rest = Unit {0}
IsCause NoMemoryFault before rest = Unit {0}

-- The lines up to a fault spell the pieces of a stream. Before a line that can't be read all whole messages of that
-- stream are answered, and the output has grown by all their responses, each a line. Where the output can't be written,
-- a response is too long or memory is wanting, it has grown by a front of these lines, with the notice only where it is
-- due.
pub record IsCutShort {D T : Type 0} (allows : D → Exchange T → D → Type 0) (c : ConfigValue) (d e : D)
    (xs ys : List ℕ) (grown : Option (List ℕ)) (fault : LineFault) : Type 0 where
  pub before : ℕ
  pub pieces : List (List ℕ)
  pub more : List ℕ
  pub spell : Spell xs pieces (after_lines before xs)
  pub grown_is : grown ≡ Some (ys ++ more)
  pub ends : Ends message_lines allows c d e (joined pieces) more (end_of fault)
  pub cause : IsCause fault before (after_lines before xs)

-- the same, where the octets of the input and the output are known
abbrev pub Fails : {D T : Type 0} → (D → Exchange T → D → Type 0) → ConfigValue → D → D → Option (List ℕ) →
    Option (List ℕ) → Option (List ℕ) → LineFault → Type 0
Fails allows c d e input output grown fault = IfSome input
    (λ xs. IfSome output (λ ys. IsCutShort allows c d e xs ys grown fault))
