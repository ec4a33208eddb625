use Rattle.std.proofs.Common.{sym}
use Rattle.dir_index.specs.ldap_dn.Names.{rdns}
use Rattle.directory_api.specs.dir_tree.Directory.{Entered}
use Rattle.indexed_tree.proofs.Lookups.{found_entry, found_somewhere}
use Rattle.indexed_tree.proofs.finding.entry_of.Goals as goal

-- a number that is found has an entry
pub returns-in-None-entry-clause-number : goal.returns-in-None-entry-clause-number
returns-in-None-entry-clause-number c =
    absurd (found_somewhere (λ (e : Entered). e.entry) (rdns c.args.name.now) c.args.tree.now.entries c.in-Some.number
    c.is_directory.ensures.rise (sym c.in-Some.ensures) c.in-None-entry.ensures)

pub returns-in-None-entry-clause-entry : goal.returns-in-None-entry-clause-entry
returns-in-None-entry-clause-entry c =
    absurd (found_somewhere (λ (e : Entered). e.entry) (rdns c.args.name.now) c.args.tree.now.entries c.in-Some.number
    c.is_directory.ensures.rise (sym c.in-Some.ensures) c.in-None-entry.ensures)

pub returns-in-Some-entry-clause-entry : goal.returns-in-Some-entry-clause-entry
returns-in-Some-entry-clause-entry c =
    found_entry (λ (e : Entered). e.entry) (rdns c.args.name.now) c.args.tree.now.entries c.in-Some.number
    c.in-Some-entry.entry.now c.is_directory.ensures.rise (sym c.in-Some.ensures) c.in-Some-entry.ensures
