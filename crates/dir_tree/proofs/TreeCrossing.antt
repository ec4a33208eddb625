-- A tree may cross threads, as a set for `search`. A crate that sends trees, or shares them, names it.
use denote.Param.Send.{IsSend, IsSync, sendable}
use Rattle.std.proofs.Crossing.{crosses}
use Rattle.dir_entry.proofs.shared_map.Crossing.{map_crosses}
use Rattle.dir_entry.proofs.Crossing.{entry_crosses}
use Rattle.dir_tree.specs.contracts.shared_names.SharedRdn as SharedRdn
use Rattle.dir_tree.specs.contracts.shared_names.SharedName as SharedName
use Rattle.dir_tree.specs.contracts.digested_names.DigestedRdn as DigestedRdn
use Rattle.dir_tree.specs.contracts.shared.SharedEntry as SharedEntry
use Rattle.dir_tree.specs.contracts.place.Standing as Standing
use Rattle.dir_tree.specs.contracts.place.Below as Below
use Rattle.dir_tree.specs.contracts.suffix.Suffix as Suffix
use Rattle.dir_tree.specs.contracts.roots.Roots as Roots
use Rattle.dir_tree.specs.contracts.tree.Tree as Tree

rdn_send : IsSend SharedRdn.the_field.row
rdn_send = search (entry_crosses, map_crosses, crosses, sendable) depth 60 fits 20000

rdn_sync : IsSync SharedRdn.the_field.row
rdn_sync = search (entry_crosses, map_crosses, crosses, sendable) depth 60 fits 20000

digested_send : IsSend DigestedRdn.the_field.row
digested_send = search (rdn_send, rdn_sync, crosses, sendable) depth 60 fits 20000

digested_sync : IsSync DigestedRdn.the_field.row
digested_sync = search (rdn_send, rdn_sync, crosses, sendable) depth 60 fits 20000

name_send : IsSend SharedName.the_field.row
name_send = search (entry_crosses, map_crosses, crosses, sendable) depth 60 fits 20000

name_sync : IsSync SharedName.the_field.row
name_sync = search (entry_crosses, map_crosses, crosses, sendable) depth 60 fits 20000

entry_send : IsSend SharedEntry.the_field.row
entry_send = search (entry_crosses, map_crosses, crosses, sendable) depth 60 fits 20000

entry_sync : IsSync SharedEntry.the_field.row
entry_sync = search (entry_crosses, map_crosses, crosses, sendable) depth 60 fits 20000

standing_send : IsSend Standing.the_field.row
standing_send = search (
  rdn_send,
  rdn_sync,
  name_send,
  name_sync,
  entry_send,
  entry_sync,
  map_crosses,
  crosses,
  sendable,
) depth 60 fits 20000

standing_sync : IsSync Standing.the_field.row
standing_sync = search (
  rdn_send,
  rdn_sync,
  name_send,
  name_sync,
  entry_send,
  entry_sync,
  map_crosses,
  crosses,
  sendable,
) depth 60 fits 20000

below_send : IsSend Below.the_field.row
below_send = search (digested_send, digested_sync, map_crosses, crosses, sendable) depth 60 fits 20000

below_sync : IsSync Below.the_field.row
below_sync = search (digested_send, digested_sync, map_crosses, crosses, sendable) depth 60 fits 20000

suffix_send : IsSend Suffix.the_field.row
suffix_send = search (name_send, name_sync, entry_crosses, map_crosses, crosses, sendable) depth 60 fits 20000

suffix_sync : IsSync Suffix.the_field.row
suffix_sync = search (name_send, name_sync, entry_crosses, map_crosses, crosses, sendable) depth 60 fits 20000

roots_send : IsSend Roots.the_field.row
roots_send = search (
  rdn_send,
  rdn_sync,
  standing_send,
  standing_sync,
  below_send,
  below_sync,
  suffix_send,
  suffix_sync,
  map_crosses,
  crosses,
  sendable,
) depth 60 fits 20000

roots_sync : IsSync Roots.the_field.row
roots_sync = search (
  rdn_send,
  rdn_sync,
  standing_send,
  standing_sync,
  below_send,
  below_sync,
  suffix_send,
  suffix_sync,
  map_crosses,
  crosses,
  sendable,
) depth 60 fits 20000

pub tree_send : IsSend Tree.the_field.row
tree_send = search (roots_send, roots_sync, map_crosses, crosses, sendable) depth 60 fits 20000

pub tree_sync : IsSync Tree.the_field.row
tree_sync = search (roots_send, roots_sync, map_crosses, crosses, sendable) depth 60 fits 20000

pub ruleset tree_crosses = (tree_send, tree_sync, map_crosses)
