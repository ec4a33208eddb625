-- What search doesn't prove of `asked_change`: the clause `same`, by a lemma of `Same`.
use Rattle.std.proofs.Common.{sym}
use Rattle.indexed_tree.specs.ldap_dn.Names.{rdns}
use Rattle.indexed_tree.specs.Stored.{entered_of}
use Rattle.dir_store.proofs.Same.{same_found}
use Rattle.dir_store.proofs.modifying.asked_change.Goals as goal

pub returns-clause-same : goal.returns-clause-same
returns-clause-same c =
    same_found c.in_ok-changed.changed.touched.types.items c.in_ok-changed.changed.touched.named.items (rdns c.rdns.result.now) c.args.tree.now.entries
    (entered_of c.in_ok-number.number c.in_ok-number.held) c.in_ok-changed.changed.number c.in_ok-changed.changed.entry
    c.is_directory.ensures.rise c.in_ok-number.ensures.found (sym c.in_ok-changed.ensures.number)
    c.in_ok-changed.ensures.same
