-- What a framer holds, and what a piece makes of it.
use Rattle.std.specs.Prelude.{◌≡◌, ℕ, List, ◌++◌, Option, Some, None}
use Rattle.ldap_msg.specs.ldap_ber.declared.message_fault.MsgFault.{MsgFault}
use Rattle.ldap_msg.specs.Messages.{MessageValue}
use Rattle.ldap_framer.specs.Stream.{Ending, awaits, stops, Reads}
use Rattle.ldap_framer.specs.declared.fault.FrameFault.{FrameFault}
use Rattle.ldap_framer.specs.declared.fault.FrameFault.TheVariants.{Refused, Failed, NoMemory}

-- Messages that are not handed out yet, the octets behind them, and the fault that stopped the stream.
pub record Framed : Type 0 where
  pub ready : List MessageValue
  pub rest : List ℕ
  pub fault : Option MsgFault

-- the ending of the stream that a framer has seen
abbrev pub ending_of : Option MsgFault → List ℕ → Ending
ending_of None rest = awaits rest
ending_of (Some fault) rest = stops fault

-- The framer has seen this stream and handed out these messages: with those that wait they are the messages of the
-- stream.
abbrev pub HasSeen : Framed → List ℕ → List MessageValue → Type 0
HasSeen f stream handed = Reads stream (handed ++ f.ready) (ending_of f.fault f.rest)

-- A piece behind what was left: its messages join those that wait, and the rest is what the piece leaves.
pub record Takes (old : Framed) (piece : List ℕ) (new : Framed) : Type 0 where
  pub was_whole : old.fault ≡ None
  pub messages : List MessageValue
  pub ready : new.ready ≡ old.ready ++ messages
  pub reads : Reads (old.rest ++ piece) messages (ending_of new.fault new.rest)

-- what a fault says of the framer before the piece and after it
abbrev pub IsFeedFault : FrameFault → Framed → List ℕ → Framed → Type 0
IsFeedFault (Refused fault) old piece new = Takes old piece new × (new.fault ≡ Some fault)
IsFeedFault Failed old piece new = (old.fault ≡ None → ⊥) × (new ≡ old)
IsFeedFault NoMemory old piece new = (old.fault ≡ None) × (new ≡ old)
