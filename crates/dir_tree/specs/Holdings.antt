-- The name that the root is to have, without its memory.
use Rattle.std.specs.Prelude.{List}
use Rattle.dir_entry.specs.ldap_dn.Names.{RdnModel}
use Rattle.dir_tree.specs.declared.suffix.Holding.{Holding}
use Rattle.dir_tree.specs.declared.suffix.Holding.TheVariants.{Own, Shared}

-- the name itself, whether its memory is owned or shared
abbrev pub name_held : Holding → List RdnModel
name_held (Own name) = name
name_held (Shared name) = name
