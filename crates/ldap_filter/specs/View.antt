-- The tree that a `Filter` stands for.
use Rattle.std.specs.Prelude.{List, [], ◌∷◌}
use Rattle.std.specs.String.{string_bytes}
use Rattle.ldap_filter.specs.Item.{equal, at_least, at_most, approximate, comparison, substrings, presence, extensible}
use Rattle.ldap_filter.specs.Tree.{Tree, conj, disj, negation, item, Trees, no_trees, tree}
use Rattle.ldap_filter.specs.ItemView.{substrings_view, extensible_view}
use Rattle.ldap_filter.specs.declared.tree.Filter.{Filter, fold-Filter}
use Rattle.ldap_filter.specs.declared.tree.Filter.TheOpen.{Filter-F}

-- trees in a row
abbrev pub row : List Tree → Trees
row [] = no_trees
row (t ∷ ts) = tree t (row ts)

-- one level, with each filter inside already seen as its tree
abbrev pub view_step : Filter-F Tree → Tree
view_step (Filter-F.And v) = conj (row v.items)
view_step (Filter-F.Or v) = disj (row v.items)
view_step (Filter-F.Not b) = negation b.value
view_step (Filter-F.Equal d a) = item (comparison equal (string_bytes d) a.items)
view_step (Filter-F.Substrings s) = item (substrings (substrings_view s))
view_step (Filter-F.AtLeast d a) = item (comparison at_least (string_bytes d) a.items)
view_step (Filter-F.AtMost d a) = item (comparison at_most (string_bytes d) a.items)
view_step (Filter-F.Present d) = item (presence (string_bytes d))
view_step (Filter-F.Approx d a) = item (comparison approximate (string_bytes d) a.items)
view_step (Filter-F.Extensible a) = item (extensible (extensible_view a))

-- a filter as clauses see it
abbrev pub view : Filter → Tree
view = fold-Filter Tree view_step
