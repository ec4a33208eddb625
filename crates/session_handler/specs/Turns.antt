-- Sessions along a talk.
use Rattle.std.specs.Prelude.{◌≡◌, ◌⊎◌, ℕ, List, [], ◌∷◌, ◌++◌}
use Rattle.request_checks.specs.ldap_msg.Messages.{SearchRequestValue, CompareRequestValue, RequestValue, MessageValue}
use Rattle.directory_api.specs.ldap_op.Values.{OpValue}
use Rattle.directory_api.specs.Answers.{ReplyModel, Answer}
use Rattle.directory_api.specs.Talk.{Looked, RoleValue, EndedValue, Exchange, asked_role, learned, searched, compared, updated}
use Rattle.directory_api.specs.log_entry.declared.words.Client.{Client}
use Rattle.request_checks.specs.Requests.{answering_of}
use Rattle.session_handler.specs.Session.{ConfigValue, Reaction, at_once, after_role, due, Asked, nothing, a_search, a_compare, an_update, pending_of, asked, after_search, after_compare, after_update, asked_state}
use Rattle.session_handler.specs.declared.answered.Next.{Next}
use Rattle.session_handler.specs.declared.answered.Next.TheVariants.{GoesOn}
use Rattle.request_checks.specs.declared.controls.Named.{Named}
use Rattle.request_checks.specs.declared.requests.Answering.{Answering}
use Rattle.session_handler.specs.declared.state.State.{State}

-- What a request of this kind comes to, along what is asked for it: nothing, since it has its reaction, or one
-- question, whose answer gives the reaction.
pub data Outcome {T : Type 0} (s : State) (id : ℕ) (answering : Answering) (named : Named) (question : Asked) :
    List (Exchange T) → Reaction → Type 0 where
  reacts : {a : Reaction} → question ≡ nothing a → Outcome s id answering named question [] a
  searches : (number : ℕ) (q : SearchRequestValue) (look : Looked Answer) → question ≡ a_search number q →
      Outcome s id answering named question (searched number q look ∷ []) (after_search s id named look)
  compares : (number : ℕ) (q : CompareRequestValue) (look : Looked ReplyModel) → question ≡ a_compare number q →
      Outcome s id answering named question (compared number q look ∷ []) (after_compare s id named look)
  updates : (client : Client) (number : ℕ) (u : OpValue) (ended : EndedValue) → question ≡ an_update client number u →
      Outcome s id answering named question (updated client number u ended ∷ []) (after_update (asked_state s named)
      id answering named ended)

-- A request that has passed its controls is answered: the role is asked, and what is told with it is learned before
-- anything else is asked; then at most one question.
pub data Inquiry {T : Type 0} (c : ConfigValue) (s : State) (id : ℕ) (r : RequestValue) (named : Named) :
    List (Exchange T) → Reaction → Type 0 where
  asks : {xs : List (Exchange T)} {a : Reaction} (role : RoleValue) (told : T) → Outcome s id (answering_of r) named
      (asked c s (pending_of id r named) r role) xs a →
      Inquiry c s id r named (asked_role role told ∷ learned told ∷ xs) a

-- What a session makes of one message, along what it asks and is answered. Nothing is asked for a message that has its
-- reaction at once.
pub data Turn {T : Type 0} (c : ConfigValue) (s : State) (m : MessageValue) : List (Exchange T) → Reaction →
    Type 0 where
  answers : {a : Reaction} → due s m ≡ at_once a → Turn c s m [] a
  inquires : {xs : List (Exchange T)} {a : Reaction} (r : RequestValue) (named : Named) → due s m ≡ after_role r named →
      Inquiry c s m.id r named xs a → Turn c s m xs a

-- a talk of nothing, or one that begins with the role and with learning what is told
abbrev pub BeginsWithRole : {T : Type 0} → List (Exchange T) → Type 0
BeginsWithRole {T} xs = (xs ≡ []) ⊎ ((role : RoleValue) × (told : T) × (ys : List (Exchange T))
    × (xs ≡ asked_role role told ∷ learned told ∷ ys))

-- Nothing is asked for a message before the role.
abbrev pub RoleIsFirst : Type 0 → Type 0
RoleIsFirst T = (c : ConfigValue) (s : State) (m : MessageValue) (xs : List (Exchange T)) (a : Reaction) →
    Turn c s m xs a → BeginsWithRole xs

-- A session reads these messages and comes to this state, along this talk: with these responses in all, and this end,
-- that of the messages (GoesOn), an unbind, or what is no request. What comes after an end is not read.
pub data Session {T : Type 0} (c : ConfigValue) : State → List MessageValue → List (Exchange T) → State →
    List MessageValue → Next → Type 0 where
  ends : {s : State} → Session c s [] [] s [] GoesOn
  goes_on : {s t : State} {m : MessageValue} {ms : List MessageValue} {xs ys : List (Exchange T)} {a : Reaction}
      {rs : List MessageValue} {next : Next} →
      Turn c s m xs a → a.next ≡ GoesOn → Session c a.state ms ys t rs next → Session c s (m ∷ ms) (xs ++ ys) t
      (a.responses ++ rs) next
  stops : {s : State} {m : MessageValue} {ms : List MessageValue} {xs : List (Exchange T)} {a : Reaction} →
      Turn c s m xs a → (a.next ≡ GoesOn → ⊥) → Session c s (m ∷ ms) xs a.state a.responses a.next

-- A session that goes on from where another came to is one session over the messages of both.
abbrev pub SessionsJoin : Type 0 → Type 0
SessionsJoin T = (c : ConfigValue) (s t u : State) (ms ns : List MessageValue) (xs ys : List (Exchange T))
    (rs qs : List MessageValue) (next : Next) →
    Session c s ms xs t rs GoesOn → Session c t ns ys u qs next → Session c s (ms ++ ns) (xs ++ ys) u (rs ++ qs) next
