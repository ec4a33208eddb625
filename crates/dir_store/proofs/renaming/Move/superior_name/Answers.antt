use Rattle.std.proofs.Common.{◌≡◌, sym, subst, List, Some}
use Rattle.std.specs.Option.{option_map}
use Rattle.indexed_tree.specs.ldap_dn.Names.{RdnModel, rdns}
use Rattle.indexed_tree.specs.dir_tree.Directory.{Entered, find}
use Rattle.indexed_tree.specs.Stored.{entered_of}
use Rattle.dir_store.proofs.Spelled.{parent_spelled}
use Rattle.dir_store.proofs.renaming.Move.superior_name.Goals as goal

-- the present superior's name is spelled as the entry's begins
pub returns-in_ok-parent-in-None-clause-spelled : goal.returns-in_ok-parent-in-None-clause-spelled
returns-in_ok-parent-in-None-clause-spelled c =
    let t = c.self.inside.tree.now in
    let e = entered_of c.self.inside.number c.self.inside.held.now in
    rw (← c.self.view_is)
    (subst (λ (n : List RdnModel). option_map (λ (x : Entered). x.name) (find (rdns n) t.entries) ≡ Some n)
    (sym c.in_ok-parent-in-None.ensures)
    (parent_spelled (rdns t.suffix) t.entries e c.is_spelled.ensures c.self.invariant.here
    (rw (← c.self.view_is) at c.requires.root)))
