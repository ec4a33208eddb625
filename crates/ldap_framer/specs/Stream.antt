-- The messages of a stream, and how it ends.
use Rattle.std.specs.Prelude.{◌≡◌, ◌⊎◌, ℕ, ◌+◌, ◌<◌, ◌≤◌, List, [], ◌∷◌, ◌++◌, length}
use Rattle.ldap_msg.specs.ldap_ber.Element.{IsElement}
use Rattle.ldap_msg.specs.ldap_ber.Header.{IsHeader, IsHeaderFront}
use Rattle.ldap_msg.specs.ldap_ber.declared.message_fault.MsgFault.{MsgFault}
use Rattle.ldap_msg.specs.ldap_ber.declared.message_fault.MsgFault.TheVariants.{TooLarge, NotAMessage, TooDeep, TooManyItems, NoMemory}
use Rattle.ldap_msg.specs.Messages.{MessageValue}
use Rattle.ldap_msg.specs.Grammar.{IsMessage}
use Rattle.ldap_msg.specs.Limits.{IsWithin, IsFault}

-- a whole element of the first octet of a message
abbrev pub IsFrame : List ℕ → Type 0
IsFrame octets = (content : List ℕ) × IsElement octets 48 content

-- the octets are this message, within the limits
pub record IsWhole (octets : List ℕ) (m : MessageValue) : Type 0 where
  pub is_message : IsMessage octets m
  pub within : IsWithin m.op
  pub small : length octets ≤ 4194304

-- a header that states at most 4194304 octets with its own, and less content than it states
pub record IsBegun (octets : List ℕ) : Type 0 where
  pub header : List ℕ
  pub n : ℕ
  pub rest : List ℕ
  pub is_header : IsHeader header 48 n
  pub whole : octets ≡ header ++ rest
  pub small : length header + n ≤ 4194304
  pub not_whole : length rest < n

-- what is awaited to become a whole message: nothing yet, a front of a header, or a front behind a header
abbrev pub IsAwaited : List ℕ → Type 0
IsAwaited [] = Unit {0}
IsAwaited (a ∷ bs) = (a ≡ 48) × (IsHeaderFront (a ∷ bs) ⊎ IsBegun (a ∷ bs))

-- A header at the front states more than 4194304 octets with its own.
pub record StatesTooLarge (octets : List ℕ) : Type 0 where
  pub header : List ℕ
  pub n : ℕ
  pub rest : List ℕ
  pub is_header : IsHeader header 48 n
  pub whole : octets ≡ header ++ rest
  pub large : 4194304 < length header + n

-- No element of a message's first octet begins so, however the octets go on.
abbrev pub BeginsNoFrame : List ℕ → Type 0
BeginsNoFrame octets = (more frame after : List ℕ) → IsFrame frame → octets ++ more ≡ frame ++ after → ⊥

-- At the front stands a whole element of at most 4194304 octets of which this fault is true.
pub record HasBadFrame (fault : MsgFault) (octets : List ℕ) : Type 0 where
  pub frame : List ℕ
  pub rest : List ℕ
  pub is_frame : IsFrame frame
  pub whole : octets ≡ frame ++ rest
  pub small : length frame ≤ 4194304
  pub is_fault : IsFault fault frame

-- What stands where a message is to begin, and stops the stream.
abbrev pub IsStop : MsgFault → List ℕ → Type 0
IsStop TooLarge octets = StatesTooLarge octets
IsStop NotAMessage octets = BeginsNoFrame octets ⊎ HasBadFrame NotAMessage octets
IsStop TooDeep octets = HasBadFrame TooDeep octets
IsStop TooManyItems octets = HasBadFrame TooManyItems octets
IsStop NoMemory octets = ⊥

-- how a stream ends: what is left is awaited, or it is stopped by a fault
pub data Ending : Type 0 where
  awaits : List ℕ → Ending
  stops : MsgFault → Ending

-- what stands behind the last message
abbrev pub EndsIn : List ℕ → Ending → Type 0
EndsIn octets (awaits rest) = (octets ≡ rest) × IsAwaited octets
EndsIn octets (stops fault) = IsStop fault octets

-- a message at the front, and then what Next says of the octets behind it
pub record HasMessage (octets : List ℕ) (m : MessageValue) (Next : List ℕ → Type 0) : Type 0 where
  pub frame : List ℕ
  pub rest : List ℕ
  pub whole : octets ≡ frame ++ rest
  pub is_whole : IsWhole frame m
  pub next : Next rest

-- The stream is these messages, one after the other, and then this ending.
abbrev pub Reads : List ℕ → List MessageValue → Ending → Type 0
Reads octets [] ending = EndsIn octets ending
Reads octets (m ∷ ms) ending = HasMessage octets m (λ rest. Reads rest ms ending)

-- two endings that leave the same: both await it, or both are stopped (where two faults are true, either)
abbrev pub IsSameEnding : Ending → Ending → Type 0
IsSameEnding (awaits x) (awaits y) = x ≡ y
IsSameEnding (stops f) (stops g) = Unit {0}
IsSameEnding (awaits x) (stops g) = ⊥
IsSameEnding (stops f) (awaits y) = ⊥
