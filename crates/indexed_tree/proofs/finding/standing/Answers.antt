use Rattle.std.proofs.Common.{sym, ◌∙◌}
use Rattle.dir_index.specs.ldap_dn.Names.{rdns}
use Rattle.directory_api.specs.dir_tree.Directory.{Entered}
use Rattle.indexed_tree.proofs.Lookups.{found_standing, found_somewhere}
use Rattle.indexed_tree.proofs.finding.standing.Goals as goal

-- a number that is found has a name
pub returns-in-None-2 : goal.returns-in-None-2
returns-in-None-2 c =
    absurd (found_somewhere (λ (e : Entered). e.name) (rdns c.args.name.now) c.args.tree.now.entries c.in-Some.number
    c.is_directory.ensures.rise (sym c.in-Some.ensures.number) (sym c.in-None-2.is ∙ c.in_ok-name-in-Some.ensures))

pub returns-in-Some-2 : goal.returns-in-Some-2
returns-in-Some-2 c =
    found_standing (rdns c.args.name.now) c.args.tree.now.entries c.in-Some.number c.in-Some.entry.now
    c.in-Some-2.name c.is_directory.ensures.rise c.in-Some.ensures.number c.in-Some.ensures.entry
    (sym c.in-Some-2.is ∙ c.in_ok-name-in-Some.ensures)
