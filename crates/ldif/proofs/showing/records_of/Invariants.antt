-- LDIF and messages: what the loop of `records_of` keeps.
use Rattle.std.proofs.Common.{◌≡◌, ◌++◌, drop, map}
use Rattle.ldap_msg.specs.View.{entry_view}
use Rattle.ldif.specs.Entries.{record_of}
use Rattle.ldif.proofs.showing.records_of.Given as goal

abbrev pub invariant-loop-entry : goal.invariant-loop-entry
invariant-loop-entry l = l.records.items ++ map record_of (map entry_view (drop l.entry-index l.shown)) ≡
    map record_of (map entry_view l.shown)
