-- Exports, from lines of hex of a search's responses to a text of LDIF.
use Rattle.std.specs.Prelude.{◌≡◌, ◌≤◌, ℕ, List, [], ◌∷◌, length, Bool, cond, nat_eq, Option, None, Some, Ok, Err}
use Rattle.std.specs.List.{list_all}
use Rattle.ldif.specs.Descriptions.{is_type}
use Rattle.ldif.specs.Records.{ValueModel, RecordModel}
use Rattle.ldif.specs.Written.{ldif_text}
use Rattle.ldap_msg.specs.Messages.{ResponseValue, bind_response, search_entry, search_done, modify_response, add_response, delete_response, modify_dn_response, compare_response, extended, OperationValue, request, response, MessageValue}
use Rattle.ldap_msg.specs.Grammar.{IsMessage}
use Rattle.ldap_msg.specs.Limits.{IsWithin}
use Rattle.ldif.specs.Entries.{record_of}
use Rattle.ldif.specs.HexLines.{octets_of_lines}
use Rattle.ldif.specs.declared.meant.Meant.{Meant}
use Rattle.ldif.specs.declared.meant.Meant.TheVariants.{Entry, Done, Other}
use Rattle.ldif.specs.declared.refusals.ExportError.{ExportError}
use Rattle.ldif.specs.declared.refusals.ExportError.TheVariants.{BadHexLine, Code, NoDoneMessage, BadMessage, NoMemory}

-- whether a line's type may stand in LDIF (RFC 2849, attrval-spec)
abbrev pub is_writable : ValueModel → Bool
is_writable v = is_type v.description

-- a record is an entry's, where each of its lines may stand in LDIF
abbrev pub if_writable : RecordModel → Meant
if_writable r = cond (list_all is_writable r.values) (Entry r) Other

-- what a response is: an entry or the end of a search (RFC 4511 4.5.2), or neither
abbrev pub meant_by_response : ResponseValue → Meant
meant_by_response (bind_response r) = Other
meant_by_response (search_entry e) = if_writable (record_of e)
meant_by_response (search_done r) = Done r.code
meant_by_response (modify_response r) = Other
meant_by_response (add_response r) = Other
meant_by_response (delete_response r) = Other
meant_by_response (modify_dn_response r) = Other
meant_by_response (compare_response r) = Other
meant_by_response (extended r) = Other

-- what a message means for an export: a request means nothing that an export takes
abbrev pub meant_by : OperationValue → Meant
meant_by (request r) = Other
meant_by (response r) = meant_by_response r

-- octets are one whole message, within the limits
pub record IsWhole (octets : List ℕ) (m : MessageValue) : Type 0 where
  pub is_message : IsMessage octets m
  pub size : length octets ≤ 4194304
  pub within : IsWithin m.op

-- What octets mean among the responses to a search; those that are no message mean nothing there.
pub data Means : List ℕ → Meant → Type 0 where
  as_message : {octets : List ℕ} (m : MessageValue) → IsWhole octets m → Means octets (meant_by m.op)
  as_none : {octets : List ℕ} → ((m : MessageValue) → IsWhole octets m → ⊥) → Means octets Other

-- each means what stands at its place
abbrev pub AllMean : List (List ℕ) → List Meant → Type 0
AllMean [] [] = Unit {0}
AllMean [] (m ∷ ms) = ⊥
AllMean (o ∷ os) [] = ⊥
AllMean (o ∷ os) (m ∷ ms) = Means o m × AllMean os ms

-- the records of the entries among messages, in their order
abbrev pub entries_in : List Meant → List RecordModel
entries_in [] = []
entries_in (Entry r ∷ ms) = r ∷ entries_in ms
entries_in (Done n ∷ ms) = entries_in ms
entries_in (Other ∷ ms) = entries_in ms

-- nothing may stand behind the end
abbrev pub wrong_behind : List Meant → Option ExportError
wrong_behind [] = None
wrong_behind (m ∷ ms) = Some BadMessage

-- what is wrong at the end of a search: its code where that isn't 0, else what stands behind
abbrev pub wrong_at_end : ℕ → List Meant → Option ExportError
wrong_at_end n ms = cond (nat_eq n 0) (wrong_behind ms) (Some (Code n))

-- What is wrong first with the responses to a search, which are entries and then its end with code 0 (RFC 4511 4.5.2):
-- another code, a message that is neither or stands behind the end, or that there is no end.
abbrev pub first_wrong : List Meant → Option ExportError
first_wrong [] = Some NoDoneMessage
first_wrong (Entry r ∷ ms) = first_wrong ms
first_wrong (Done n ∷ ms) = wrong_at_end n ms
first_wrong (Other ∷ ms) = Some BadMessage

-- the lines of a text spell messages that mean this
pub record AreMeant (text : List ℕ) (meant : List Meant) : Type 0 where
  pub messages : List (List ℕ)
  pub spelled : octets_of_lines text ≡ Ok messages
  pub mean : AllMean messages meant

-- What is written of lines of hex: the text of the records of the entries, with which nothing is wrong.
pub record IsExport (text out : List ℕ) : Type 0 where
  pub meant : List Meant
  pub are_meant : AreMeant text meant
  pub right : first_wrong meant ≡ None
  pub written : out ≡ ldif_text (entries_in meant)

-- this is wrong first
pub record IsWrong (text : List ℕ) (e : ExportError) : Type 0 where
  pub meant : List Meant
  pub are_meant : AreMeant text meant
  pub wrong : first_wrong meant ≡ Some e

-- Why lines are not exported: the first that is no hex, or what is wrong first with the messages.
abbrev pub IsExportFault : ExportError → List ℕ → Type 0
IsExportFault (BadHexLine line) text = octets_of_lines text ≡ Err line
IsExportFault (Code number) text = IsWrong text (Code number)
IsExportFault NoDoneMessage text = IsWrong text NoDoneMessage
IsExportFault BadMessage text = IsWrong text BadMessage
IsExportFault NoMemory text = Unit {0}
