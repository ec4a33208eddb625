-- The messages that carry a response: RFC 4511 4.1.1 and 4.1.9.
use Rattle.std.specs.Prelude.{ℕ, List, [], ◌∷◌, map, decimal, false, Option, None, Some}
use Rattle.ldap_msg.specs.ldap_parts.Values.{ControlValue}
use Rattle.ldap_msg.specs.Messages.{SearchResultEntryValue, LdapResultValue, ResponseValue, search_entry, response, MessageValue}
use Rattle.request_checks.specs.Controls.{number_control}
use Rattle.request_checks.specs.declared.requests.Answering.{Answering}
use Rattle.request_checks.specs.declared.requests.Answering.TheVariants.{Bind, Search, Modify, Add, Delete, ModifyDn, Compare, Extended}
pub use Rattle.ldap_msg.specs.Limits.{HasTooLong}

-- a response with the messageID of its request, and controls
abbrev pub message : ℕ → ResponseValue → List ControlValue → MessageValue
message id r controls = record { id = id; op = response r; controls = controls }

-- referral (10) to one URI (RFC 4511 4.1.10)
abbrev pub referral_to : List ℕ → LdapResultValue
referral_to uri = record { code = 10; matched_dn = []; diagnostic_message = []; referral = uri ∷ [] }

-- the control that tells a number, where the request named one
abbrev pub number_told : Option ℕ → ℕ → List ControlValue
number_told None number = []
number_told (Some asked) number = record {
  control_type = number_control;
  criticality = false;
  value =
      Some (decimal number);
} ∷ []

-- the value of the response to the one update that is an extended request: its number
abbrev pub value_for : Answering → ℕ → Option (List ℕ)
value_for Bind number = None
value_for Search number = None
value_for Modify number = None
value_for Add number = None
value_for Delete number = None
value_for ModifyDn number = None
value_for Compare number = None
value_for Extended number = Some (decimal number)

-- the entries of an answer, each a message, in order (RFC 4511 4.5.2)
abbrev pub entry_messages : ℕ → List SearchResultEntryValue → List MessageValue
entry_messages id entries = map (λ (e : SearchResultEntryValue). message id (search_entry e) []) entries
