-- What a tree keeps.
use Rattle.std.specs.Prelude.{List}
use Rattle.dir_tree.specs.Directory.{Entered}
use Rattle.dir_tree.specs.Superiors.{directory_of}
use Rattle.dir_tree.specs.declared.roots.Roots.{Roots}

-- the directory of a tree
abbrev pub shown : Roots → List Entered
shown r = directory_of r.reach r.entries
