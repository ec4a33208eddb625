use Rattle.std.proofs.Common.{◌≡◌, ◌++◌, drop, length, map}
use Rattle.directory_api.specs.FoundView.{found_view}
use Rattle.request_checks.specs.ldap_msg.Written.{message_bytes}
use Rattle.request_checks.specs.Messages.{entry_messages, HasTooLong}
use Rattle.session_handler.specs.Rows.{cut, total}
use Rattle.session_handler.proofs.responses.entry_responses.Given as goal

-- the responses so far, and those of the entries that are left, are those of all entries
abbrev pub invariant-loop-entry : goal.invariant-loop-entry
invariant-loop-entry l =
    (total l.lengths.items ≡ length l.octets.items)
    × (cut l.lengths.items l.octets.items ++ map message_bytes
    (entry_messages l.fn.id (map found_view (drop l.entry-index l.entry-items)))
    ≡ map message_bytes (entry_messages l.fn.id (map found_view l.fn.entries.items)))
    × (HasTooLong (entry_messages l.fn.id (map found_view (drop l.entry-index l.entry-items))) →
    HasTooLong (entry_messages l.fn.id (map found_view l.fn.entries.items)))
