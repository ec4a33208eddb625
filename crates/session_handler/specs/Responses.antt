-- The messages that answer a request: RFC 4511 4.1.1 and 4.1.9.
use Rattle.std.specs.Prelude.{ℕ, List, [], ◌∷◌, ◌++◌, codes, Option, None, Some}
use Rattle.request_checks.specs.ldap_msg.Messages.{LdapResultValue, extended, MessageValue}
use Rattle.directory_api.specs.Answers.{ReplyModel, only, Answer}
use Rattle.directory_api.specs.Talk.{Looked, found, not_yet, gone, no_memory}
use Rattle.request_checks.specs.Messages.{message, number_told, value_for, entry_messages}
use Rattle.request_checks.specs.Requests.{response_to}
use Rattle.request_checks.specs.declared.requests.Answering.{Answering}
use Rattle.request_checks.specs.declared.requests.Answering.TheVariants.{Search, Compare}

-- a result that has a code and a matchedDN, and nothing else (RFC 4511 4.1.9)
abbrev pub result_of : ReplyModel → LdapResultValue
result_of r = record { code = r.code; matched_dn = r.matched; diagnostic_message = []; referral = [] }

-- a code alone, in a response of this kind
abbrev pub code_message : ℕ → Answering → ℕ → MessageValue
code_message id answering code = message id (response_to answering (result_of (only code)) None) []

-- a reply in a response of this kind, with a number where the request named one
abbrev pub reply_message : ℕ → Answering → Option ℕ → ℕ → ReplyModel → MessageValue
reply_message id answering asked number reply = message id (response_to answering (result_of reply) None)
    (number_told asked number)

-- the reply to an update that was made or refused under its number, with the number where the request named one
abbrev pub done_message : ℕ → Answering → Option ℕ → ℕ → ReplyModel → MessageValue
done_message id answering asked number reply = message id (response_to answering (result_of reply)
    (value_for answering number)) (number_told asked number)

-- what a search ends with
abbrev pub ended_by : Answer → ReplyModel
ended_by a = record { code = a.code; matched = a.matched }

-- The responses to a search whose request named a number, or none: its entries and then the done message, with the
-- number reached; busy (51) where the number isn't reached, unavailable (52) where there is nothing to read any more,
-- other (80) without memory.
abbrev pub search_messages : ℕ → Option ℕ → Looked Answer → List MessageValue
search_messages id asked (found at a) = entry_messages id a.entries ++ reply_message id Search asked at
    (ended_by a) ∷ []
search_messages id asked (not_yet at) = reply_message id Search asked at (only 51) ∷ []
search_messages id asked gone = code_message id Search 52 ∷ []
search_messages id asked no_memory = code_message id Search 80 ∷ []

-- the same of a compare
abbrev pub compare_messages : ℕ → Option ℕ → Looked ReplyModel → List MessageValue
compare_messages id asked (found at reply) = reply_message id Compare asked at reply ∷ []
compare_messages id asked (not_yet at) = reply_message id Compare asked at (only 51) ∷ []
compare_messages id asked gone = code_message id Compare 52 ∷ []
compare_messages id asked no_memory = code_message id Compare 80 ∷ []

-- the Notice of Disconnection with protocolError (2): messageID 0, responseName 1.3.6.1.4.1.1466.20036 (RFC 4511 4.4.1)
abbrev pub notice : MessageValue
notice =
    message 0 (extended (record {
      result = result_of (only 2);
      response_name = Some (codes "1.3.6.1.4.1.1466.20036");
      response_value = None;
    })) []
