-- Octets that are written. Messages are here only as their octets.
use Rattle.std.specs.Prelude.{◌≡◌, ℕ, List, [], ◌∷◌, ◌++◌, Bool, true, Option}
use Rattle.std.specs.Io.KnownBytes.{Appends}
use Rattle.session_handler.specs.ldap_msg.Messages.{MessageValue}
use Rattle.session_handler.specs.ldap_msg.Written.{message_bytes}
pub use Rattle.session_handler.specs.request_checks.Binding.{is_empty}
pub use Rattle.session_handler.specs.Rows.{joined}

-- messages written, one after the other
abbrev pub octets_of : List MessageValue → List ℕ
octets_of [] = []
octets_of (m ∷ ms) = message_bytes m ++ octets_of ms

-- a list is the front of another
pub record IsFront (front whole : List ℕ) : Type 0 where
  pub rest : List ℕ
  pub is : whole ≡ front ++ rest

-- a front of the octets was taken: all of them, where that is said
pub record HasWritten (before after : Option (List ℕ)) (octets : List ℕ) (all : Bool) : Type 0 where
  pub taken : List ℕ
  pub grown : Appends before after taken
  pub front : IsFront taken octets
  pub whole : all ≡ true → taken ≡ octets
