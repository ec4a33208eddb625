-- What contracts that aren't public say of it. What public contracts say is in specs/View.
use Rattle.std.specs.Prelude.{List, map}
use Rattle.ldap_filter.specs.Tree.{Trees}
use Rattle.ldap_filter.specs.declared.tree.Filter.{Filter}
use Rattle.ldap_filter.specs.View.{row, view}

-- filters as clauses see them
abbrev pub views : List Filter → Trees
views fs = row (map view fs)
