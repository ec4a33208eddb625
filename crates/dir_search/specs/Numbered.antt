-- Entries by their numbers.
use Rattle.std.specs.Prelude.{List, [], Option, None, Some}
use Rattle.indexed_tree.specs.ldap_dn.Names.{RdnModel}
use Rattle.indexed_tree.specs.dir_tree.Directory.{Entered}

-- the name of an entry; the empty one, where there is none
abbrev pub name_of : Option Entered → List RdnModel
name_of None = []
name_of (Some e) = e.name
