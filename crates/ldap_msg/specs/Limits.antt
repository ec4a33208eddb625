-- Where a filter stands in a message, and what each fault says of the octets.
use Rattle.std.specs.Prelude.{◌^◌, ◌<◌, ◌≤◌, ◌⊎◌, ℕ, List, [], ◌∷◌, length}
use Rattle.ldap_requests.specs.ldap_ber.declared.message_fault.MsgFault.{MsgFault}
use Rattle.ldap_requests.specs.ldap_ber.declared.message_fault.MsgFault.TheVariants.{TooLarge, NotAMessage, TooDeep, TooManyItems, NoMemory}
use Rattle.ldap_requests.specs.ldap_ber.Fields.{HasField, HasNumber}
use Rattle.ldap_requests.specs.ldap_filter.Tree.{depth, count}
use Rattle.ldap_requests.specs.ldap_filter.Limits.{Opens}
use Rattle.ldap_msg.specs.Messages.{search, RequestValue, OperationValue, request, response, MessageValue}
use Rattle.ldap_msg.specs.Grammar.{IsMessage}
use Rattle.ldap_requests.specs.Limits.{FilterStandsAt}
use Rattle.ldap_msg.specs.Written.{message_content}

-- In the place of an operation a search request stands, and its filter's place is this one.
pub record OperationHasFilterAt (octets place : List ℕ) : Type 0 where
  pub content : List ℕ
  pub rest : List ℕ
  pub field : HasField octets 99 content rest
  pub stands_at : FilterStandsAt content place

-- In the content of a message a messageID stands, then a search request, and its filter's place is this one.
pub record ContentHasFilterAt (content place : List ℕ) : Type 0 where
  pub id : ℕ
  pub rest : List ℕ
  pub id_field : HasNumber content 2 (2 ^ 31) id rest
  pub operation : OperationHasFilterAt rest place

-- A whole element of first octet 30 stands whose content is that of a message, as above.
pub record HasFilterAt (octets place : List ℕ) : Type 0 where
  pub content : List ℕ
  pub envelope : HasField octets 48 content []
  pub inside : ContentHasFilterAt content place

-- What a fault says of octets that are to be a whole message.
abbrev pub IsFault : MsgFault → List ℕ → Type 0
IsFault TooLarge octets = 4194304 < length octets
IsFault NotAMessage octets = ((m : MessageValue) × IsMessage octets m) → ⊥
IsFault TooDeep octets = (place : List ℕ) × (k : ℕ) × HasFilterAt octets place × Opens 128 k place
IsFault TooManyItems octets = (place : List ℕ) × (d : ℕ) × HasFilterAt octets place × Opens d 512 place
IsFault NoMemory octets = Unit {0}

-- The filter of a search is at most 128 deep and of at most 512 items.
abbrev pub IsRequestWithin : RequestValue → Type 0
IsRequestWithin (search s) = (depth s.filter ≤ 128) × (count s.filter ≤ 512)
IsRequestWithin other = Unit {0}

-- A message is within the limits where its search is; other operations have none.
abbrev pub IsWithin : OperationValue → Type 0
IsWithin (request r) = IsRequestWithin r
IsWithin (response r) = Unit {0}

-- some message has a content that no length of at most four octets can say
abbrev pub HasTooLong : List MessageValue → Type 0
HasTooLong [] = ⊥
HasTooLong (m ∷ ms) = (2 ^ 32 ≤ length (message_content m)) ⊎ HasTooLong ms
