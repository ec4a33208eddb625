-- Conversations: the octets that were heard and given out, and the directories before and after each message, come in;
-- whose conversation they are comes out.
use Rattle.std.specs.Prelude.{◌≡◌, ◌⊎◌, ℕ, take, drop, List, [], ◌∷◌, ◌++◌, None, Some}
use Rattle.session_handler.specs.ldap_msg.Messages.{MessageValue}
use Rattle.ldap_framer.specs.Stream.{Ending, Reads}
use Rattle.ldap_framer.specs.Framed.{HasSeen}
use Rattle.session_handler.specs.directory_api.Talk.{Exchange}
use Rattle.session_handler.specs.Responses.{notice}
use Rattle.session_handler.specs.Session.{ConfigValue, Reaction, at_first}
use Rattle.session_handler.specs.declared.state.State.{State}
use Rattle.session_handler.specs.declared.answered.Next.{Next}
use Rattle.session_handler.specs.declared.answered.Next.TheVariants.{GoesOn, Unbound as UnboundNext, Disconnected as DisconnectedNext}
use Rattle.ldap_session.specs.Octets.{octets_of, IsFront}
use Rattle.ldap_session.specs.View.{ConversationValue}
use Rattle.ldap_session.specs.Visits.{Visited, IsOne}
use Rattle.ldap_session.specs.Progress.{TakesNext, IsIdle, Reached}
use Rattle.ldap_session.specs.Serving.{IsEnd, IsCaughtUp}
use Rattle.ldap_session.specs.declared.due.Step.{Step}
use Rattle.ldap_session.specs.declared.due.Step.TheVariants.{Awaits, Answered, Ends}
use Rattle.ldap_session.specs.declared.end.SessionEnd.{SessionEnd}
use Rattle.ldap_session.specs.declared.end.SessionEnd.TheVariants.{Unbound, EndOfInput, Truncated, Disconnected, ReadFailed, WriteFailed, NoMemory}

-- nothing was heard, and nothing is said
pub record IsFresh (v : ConversationValue) : Type 0 where
  pub seen : HasSeen v.session.framed [] []
  pub none_ready : v.session.framed.ready ≡ []
  pub no_fault : v.session.framed.fault ≡ None
  pub state : v.session.state ≡ at_first
  pub unsent : v.unsent ≡ []
  pub goes_on : v.end ≡ None

-- a piece of the stream is heard, and nothing else
pub record Hears (v : ConversationValue) (piece : List ℕ) (w : ConversationValue) : Type 0 where
  pub stream : (stream : List ℕ) (handed : List MessageValue) → HasSeen v.session.framed stream handed →
      HasSeen w.session.framed (stream ++ piece) handed
  pub state : w.session.state ≡ v.session.state
  pub unsent : w.unsent ≡ v.unsent
  pub end : w.end ≡ v.end

-- So many octets are sent: those that were said first.
abbrev pub sends : ConversationValue → ℕ → ConversationValue
sends v count = record v { unsent = drop count v.unsent }

-- A conversation so far: of the octets heard these messages are served, along these visits. What was given out and what
-- is unsent are, together and in order, the octets of all responses.
pub record Stands {D T : Type 0} (allows : D → Exchange T → D → Type 0) (c : ConfigValue) (visits : List (D × D))
    (v : ConversationValue) (heard given : List ℕ) : Type 0 where
  pub handed : List MessageValue
  pub talk : List (Exchange T)
  pub responses : List MessageValue
  pub seen : HasSeen v.session.framed heard handed
  pub visited : Visited allows c handed visits talk v.session.state responses GoesOn
  pub said : given ++ v.unsent ≡ octets_of responses
  pub goes_on : v.end ≡ None

-- A conversation that has ended, and what was said in all.
pub record IsOver {D T : Type 0} (allows : D → Exchange T → D → Type 0) (c : ConfigValue) (visits : List (D × D))
    (heard said : List ℕ) (end : SessionEnd) : Type 0 where
  pub handed : List MessageValue
  pub more : List MessageValue
  pub ending : Ending
  pub talk : List (Exchange T)
  pub state : State
  pub responses : List MessageValue
  pub next : Next
  pub reads : Reads heard (handed ++ more) ending
  pub visited : Visited allows c handed visits talk state responses next
  pub is_end : IsEnd octets_of end next more ending responses said

-- it has ended with a message that this directory served, or where none was served and the directory is as it was
abbrev pub IsOverAt : {D T : Type 0} → (D → Exchange T → D → Type 0) → ConfigValue → List (D × D) → D → D → List ℕ →
    List ℕ → SessionEnd → Type 0
IsOverAt allows c visits d e heard said end = IsOver allows c (visits ++ (d, e) ∷ []) heard said end
    ⊎ (IsOver allows c visits heard said end × (e ≡ d))

-- What becomes of a conversation by an attempt to answer the next message, of a directory from d to e.
abbrev pub ComesBy : {D T : Type 0} → (D → Exchange T → D → Type 0) → ConfigValue → List (D × D) → ConversationValue →
    D → D → List ℕ → List ℕ → Step → Type 0
ComesBy allows c visits w d e heard given Awaits = Stands allows c visits w heard given × IsCaughtUp w.session × (e ≡ d)
ComesBy allows c visits w d e heard given Answered = Stands allows c (visits ++ (d, e) ∷ []) w heard given
ComesBy allows c visits w d e heard given (Ends end) = IsOverAt allows c visits d e heard (given ++ w.unsent) end
    × (w.end ≡ Some end)

-- Wherever a conversation stood, and whichever directories served it before, it comes to this.
abbrev pub Continues : {D T : Type 0} → (D → Exchange T → D → Type 0) → ConfigValue → ConversationValue →
    ConversationValue → D → D → Step → Type 0
Continues {D} {T} allows c v w d e step = (visits : List (D × D)) (heard given : List ℕ) →
    Stands allows c visits v heard given → ComesBy allows c visits w d e heard given step

-- what is over stays as it is
pub record StaysOver {D : Type 0} (v w : ConversationValue) (d e : D) (end : SessionEnd) (step : Step) : Type 0 where
  pub same : w ≡ v
  pub untouched : e ≡ d
  pub step_is : step ≡ Ends end

-- what is kept last, of these responses, where a conversation ends so
abbrev pub IsLast : SessionEnd → Next → List ℕ → List ℕ → Type 0
IsLast Unbound next octets more = (next ≡ UnboundNext) × (more ≡ octets)
IsLast Disconnected next octets more = (next ≡ DisconnectedNext) × (more ≡ octets)
IsLast WriteFailed next octets more = IsFront more octets
IsLast NoMemory next octets more = IsFront more octets
IsLast EndOfInput next octets more = ⊥
IsLast Truncated next octets more = ⊥
IsLast ReadFailed next octets more = ⊥

-- a conversation ends, where these octets are due
pub record EndsBy (v w : ConversationValue) (octets : List ℕ) (next : Next) (end : SessionEnd) : Type 0 where
  pub more : List ℕ
  pub unsent : w.unsent ≡ v.unsent ++ more
  pub last : IsLast end next octets more
  pub end_is : w.end ≡ Some end

-- the next message is answered
pub record TakesTurn {D T : Type 0} (allows : D → Exchange T → D → Type 0) (c : ConfigValue) (v w : ConversationValue)
    (d e : D) : Type 0 where
  pub reaction : Reaction
  pub takes : TakesNext allows c v.session w.session d e reaction
  pub state : w.session.state ≡ reaction.state
  pub goes : reaction.next ≡ GoesOn
  pub unsent : w.unsent ≡ v.unsent ++ octets_of reaction.responses
  pub end_is : w.end ≡ None

-- the next message is the last
pub record TakesLast {D T : Type 0} (allows : D → Exchange T → D → Type 0) (c : ConfigValue) (v w : ConversationValue)
    (d e : D) (end : SessionEnd) : Type 0 where
  pub reaction : Reaction
  pub takes : TakesNext allows c v.session w.session d e reaction
  pub ends : EndsBy v w (octets_of reaction.responses) reaction.next end

-- what stands next is no message, and is answered by the notice
pub record GivesNotice {D : Type 0} (v w : ConversationValue) (d e : D) (end : SessionEnd) : Type 0 where
  pub idle : IsIdle v.session w.session d e
  pub fault : v.session.framed.fault ≡ None → ⊥
  pub ends : EndsBy v w (octets_of (notice ∷ [])) DisconnectedNext end

-- What an attempt to answer the next message is.
abbrev pub StepsTo : {D T : Type 0} → (D → Exchange T → D → Type 0) → ConfigValue → ConversationValue →
    ConversationValue → D → D → Step → Type 0
StepsTo allows c v w d e Awaits = IsIdle v.session w.session d e × (v.session.framed.fault ≡ None) × (w ≡ v)
StepsTo allows c v w d e Answered = TakesTurn allows c v w d e
StepsTo allows c v w d e (Ends end) = TakesLast allows c v w d e end ⊎ GivesNotice v w d e end

-- A conversation stands at its beginning, unvisited.
abbrev pub Begins : {D T : Type 0} → (D → Exchange T → D → Type 0) → Type 0
Begins allows = (c : ConfigValue) (v : ConversationValue) → IsFresh v → Stands allows c [] v [] []

-- Where a conversation stands, it stands with a further piece heard.
abbrev pub Listens : {D T : Type 0} → (D → Exchange T → D → Type 0) → Type 0
Listens {D} allows = (c : ConfigValue) (visits : List (D × D)) (v w : ConversationValue) (heard given piece : List ℕ) →
    Hears v piece w → Stands allows c visits v heard given → Stands allows c visits w (heard ++ piece) given

-- What is sent is what was said next: what was given out stays a front of the responses.
abbrev pub Speaks : {D T : Type 0} → (D → Exchange T → D → Type 0) → Type 0
Speaks {D} allows = (c : ConfigValue) (visits : List (D × D)) (v : ConversationValue) (heard given : List ℕ)
    (count : ℕ) →
    Stands allows c visits v heard given → Stands allows c visits (sends v count) heard (given ++ take count v.unsent)

-- Where all visits were to one directory, a conversation is a session with it.
abbrev pub IsWithOne : {D T : Type 0} → (D → Exchange T → D → Type 0) → Type 0
IsWithOne {D} allows = (c : ConfigValue) (d e : D) (visits : List (D × D)) (v : ConversationValue)
    (heard given : List ℕ) →
    IsOne d visits e → Stands allows c visits v heard given → Reached octets_of allows c d e v.session heard
    (given ++ v.unsent)
