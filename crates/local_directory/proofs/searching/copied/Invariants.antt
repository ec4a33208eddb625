use Rattle.std.proofs.Common.{◌≡◌, map, take}
use Rattle.dir_store.specs.directory_api.ldap_msg.View.{entry_view}
use Rattle.dir_store.specs.directory_api.FoundView.{found_view}
use Rattle.local_directory.proofs.searching.copied.Given as goal

-- copies of those so far
abbrev pub invariant-loop-entry : goal.invariant-loop-entry
invariant-loop-entry l = map entry_view l.copies.items ≡ map found_view (take l.entry-index l.entries)
