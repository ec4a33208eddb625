-- Sessions whose messages are served by directories in turn. What is asked for each message, and the directories before
-- and after it, come in; whose session that is comes out.
use Rattle.std.specs.Prelude.{List, [], ◌∷◌, ◌++◌}
use Rattle.session_handler.specs.ldap_msg.Messages.{MessageValue}
use Rattle.session_handler.specs.directory_api.Talk.{Exchange, Along}
use Rattle.session_handler.specs.Session.{ConfigValue, Reaction, at_first}
use Rattle.session_handler.specs.Turns.{Turn, Session}
use Rattle.session_handler.specs.declared.state.State.{State}
use Rattle.session_handler.specs.declared.answered.Next.{Next}
use Rattle.session_handler.specs.declared.answered.Next.TheVariants.{GoesOn}

-- Messages were served in turn, each by one directory, which is seen before it and after it: all that was asked for a
-- message was put to the directory that served it, which went along that. The whole talk, the state and the responses
-- are those of one session.
pub data Visited {D T : Type 0} (allows : D → Exchange T → D → Type 0) (c : ConfigValue) :
    List MessageValue → List (D × D) → List (Exchange T) → State → List MessageValue → Next → Type 0 where
  none : Visited allows c [] [] [] at_first [] GoesOn
  one_more : {ms : List MessageValue} {visits : List (D × D)} {talk more : List (Exchange T)} {s : State}
      {rs : List MessageValue} {m : MessageValue} {a : Reaction} {d e : D} →
      Visited allows c ms visits talk s rs GoesOn → Turn c s m more a → Along allows d more e →
      Visited allows c (ms ++ m ∷ []) (visits ++ (d, e) ∷ []) (talk ++ more) a.state (rs ++ a.responses) a.next

-- each visit begins where the one before it ended: all are visits to one directory
pub data IsOne {D : Type 0} : D → List (D × D) → D → Type 0 where
  unvisited : {d : D} → IsOne d [] d
  goes_on : {d e f : D} {visits : List (D × D)} → IsOne d visits e → IsOne d (visits ++ (e, f) ∷ []) f

-- Whichever directories serve its messages, a session is a session.
abbrev pub IsSession : {D T : Type 0} → (D → Exchange T → D → Type 0) → Type 0
IsSession {D} {T} allows = (c : ConfigValue) (ms : List MessageValue) (visits : List (D × D))
    (talk : List (Exchange T)) (s : State) (rs : List MessageValue) (next : Next) →
    Visited allows c ms visits talk s rs next → Session c at_first ms talk s rs next
