-- The steps of a session that is served: reads, writes, pieces. The whole session is above.
use Rattle.std.specs.Prelude.{◌≡◌, ◌⊎◌, ◌≤◌, ℕ, length, take, List, [], ◌++◌, Option, None}
use Rattle.std.specs.Io.KnownBytes.{Appends, Consumes, IsAtEnd}
use Rattle.session_handler.specs.directory_api.Talk.{Exchange}
use Rattle.session_handler.specs.Session.{ConfigValue}
use Rattle.ldap_session.specs.Octets.{octets_of, IsFront}
use Rattle.ldap_session.specs.View.{SessionValue, ConversationValue}
use Rattle.ldap_session.specs.Progress.{Reached}
use Rattle.ldap_session.specs.private.Serving.{ComesTo}
use Rattle.ldap_session.specs.declared.end.SessionEnd.{SessionEnd}
use Rattle.ldap_session.specs.declared.end.SessionEnd.TheVariants.{Unbound, EndOfInput, Truncated, Disconnected, ReadFailed, WriteFailed, NoMemory}
use Rattle.ldap_session.specs.declared.serving.Got.{Got}
use Rattle.ldap_session.specs.declared.serving.Got.TheVariants.{Octets, End, Failed}
use Rattle.ldap_session.specs.declared.serving.Flow.{Flow}
use Rattle.ldap_session.specs.declared.serving.Flow.TheVariants.{Goes, Ends as EndsWith}

-- the last octets are written, and the session ends as was said; or a front of them is, where the writer failed
pub record HasPutLast (output grown : Option (List ℕ)) (octets : List ℕ) (end ended : SessionEnd) : Type 0 where
  pub more : List ℕ
  pub appended : Appends output grown more
  pub put : ((ended ≡ end) × (more ≡ octets)) ⊎ ((ended ≡ WriteFailed) × IsFront more octets)

-- nothing is unsent in a conversation that goes on
pub record IsAllSent (v : ConversationValue) : Type 0 where
  pub none_unsent : v.unsent ≡ []
  pub goes_on : v.end ≡ None

-- a fact for where a session goes on
abbrev pub OnGoing : Flow → Type 0 → Type 0
OnGoing Goes p = p
OnGoing (EndsWith end) p = Unit {0}

-- what a read took of an input, and gave
abbrev pub HasGot : Option (List ℕ) → Option (List ℕ) → List ℕ → Got → Type 0
HasGot input left buffer (Octets count) = (count ≤ length buffer) × Consumes input left (take count buffer)
HasGot input left buffer End = Consumes input left [] × IsAtEnd left
HasGot input left buffer Failed = Consumes input left []

-- a writer that failed ends a session that would go on
abbrev pub IsFlushed : Flow → Flow → Type 0
IsFlushed Goes Goes = Unit {0}
IsFlushed Goes (EndsWith end) = end ≡ WriteFailed
IsFlushed (EndsWith end) flow = flow ≡ EndsWith end

-- nothing was written, and the flow is as after a flush
pub record HasFlushed (output grown : Option (List ℕ)) (before after : Flow) : Type 0 where
  pub appended : Appends output grown []
  pub flow : IsFlushed before after

-- an end that comes before that of the input
abbrev pub IsEarly : Flow → Type 0
IsEarly Goes = Unit {0}
IsEarly (EndsWith Unbound) = Unit {0}
IsEarly (EndsWith EndOfInput) = ⊥
IsEarly (EndsWith Truncated) = ⊥
IsEarly (EndsWith Disconnected) = Unit {0}
IsEarly (EndsWith ReadFailed) = Unit {0}
IsEarly (EndsWith WriteFailed) = Unit {0}
IsEarly (EndsWith NoMemory) = Unit {0}

-- Wherever a session stood, it has written more, and comes to this.
pub record HasWorked {D T : Type 0} (allows : D → Exchange T → D → Type 0) (c : ConfigValue) (old now : D)
    (s t : SessionValue) (output grown : Option (List ℕ)) (flow : Flow) : Type 0 where
  pub more : List ℕ
  pub appended : Appends output grown more
  pub early : IsEarly flow
  pub comes : (first : D) (read written : List ℕ) → Reached octets_of allows c first old s read written →
      ComesTo allows c first now t read (written ++ more) flow

-- a piece of the input is taken, unless memory was wanting for it
abbrev pub Takes : List ℕ → List ℕ → Flow → Type 0
Takes piece taken Goes = taken ≡ piece
Takes piece taken (EndsWith end) = (taken ≡ piece) ⊎ ((taken ≡ []) × (end ≡ NoMemory))

-- The same, where it has read a piece before.
pub record HasFed {D T : Type 0} (allows : D → Exchange T → D → Type 0) (c : ConfigValue) (old now : D)
    (s t : SessionValue) (piece : List ℕ) (output grown : Option (List ℕ)) (flow : Flow) : Type 0 where
  pub taken : List ℕ
  pub more : List ℕ
  pub takes : Takes piece taken flow
  pub appended : Appends output grown more
  pub early : IsEarly flow
  pub comes : (first : D) (read written : List ℕ) → Reached octets_of allows c first old s read written →
      ComesTo allows c first now t (read ++ taken) (written ++ more) flow
