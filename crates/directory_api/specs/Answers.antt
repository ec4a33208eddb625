-- What a directory answers, as values: RFC 4511 4.1.9 and 4.5.2.
use Rattle.std.specs.Prelude.{ℕ, List, []}
use Rattle.ldap_msg.specs.Messages.{SearchResultEntryValue}

-- a result code, and matchedDN
pub record ReplyModel : Type 0 where
  pub code : ℕ
  pub matched : List ℕ

-- a code, and no name
abbrev pub only : ℕ → ReplyModel
only code = record { code = code; matched = [] }

-- a result code, matchedDN, and the entries that are shown
pub record Answer : Type 0 where
  pub code : ℕ
  pub matched : List ℕ
  pub entries : List SearchResultEntryValue

-- no entries, and a reply
abbrev pub refused : ReplyModel → Answer
refused r = record { code = r.code; matched = r.matched; entries = [] }
