use Rattle.std.proofs.Common.{◌≡◌, map, filter, take}
use Rattle.dir_tree.specs.dir_entry.Entry.{shown as without_keys}
use Rattle.directory_api.specs.Selection.{is_selected, shown}
use Rattle.directory_api.proofs.shows.Shows.show_all.Given as goal

-- what is shown of the attributes so far
abbrev pub invariant-loop-attribute : goal.invariant-loop-attribute
invariant-loop-attribute l =
    l.all.items
    ≡ map (shown l.self.schema l.self.types_only) (filter (λ a. is_selected l.self.schema l.self.selectors a.kind)
    (map without_keys (take l.attribute-index l.attributes)))
