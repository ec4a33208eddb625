use Rattle.std.proofs.Common.{◌∙◌, sym, ap, ℕ, Option}
use Rattle.std.specs.Option.{option_map}
use Rattle.indexed_tree.specs.ldap_dn.Names.{rdns}
use Rattle.indexed_tree.specs.declared.held.StoredEntry.{StoredEntry}
use Rattle.indexed_tree.specs.Stored.{entered_of}
use Rattle.indexed_tree.proofs.Lookups.{found_own, found_same}
use Rattle.indexed_tree.proofs.Shown.{asked_some}
use Rattle.dir_store.proofs.finding.asked_entry.Goals as goal

-- the entry that is found
pub returns-in-Some-clause-ok : goal.returns-in-Some-clause-ok
returns-in-Some-clause-ok c =
    asked_some c.args.schema.now c.args.tree.now c.args.name.now (entered_of c.in-Some.number c.in-Some.held)
    (sym c.in_ok-number.ensures
    ∙ ap (λ (o : Option (ℕ × StoredEntry)). option_map (λ (p : ℕ × StoredEntry). entered_of p.0 p.1) o)
    c.in-Some.is)

-- it is found by its own name too
pub returns-in-Some-clause-own : goal.returns-in-Some-clause-own
returns-in-Some-clause-own c =
    found_own (rdns c.args.name.now) c.args.tree.now.entries (entered_of c.in-Some.number c.in-Some.held)
    (sym c.in_ok-number.ensures
    ∙ ap (λ (o : Option (ℕ × StoredEntry)). option_map (λ (p : ℕ × StoredEntry). entered_of p.0 p.1) o)
    c.in-Some.is)

-- its name is the one that was asked
pub returns-in-Some-clause-same : goal.returns-in-Some-clause-same
returns-in-Some-clause-same c =
    found_same (rdns c.args.name.now) c.args.tree.now.entries (entered_of c.in-Some.number c.in-Some.held)
    (sym c.in_ok-number.ensures
    ∙ ap (λ (o : Option (ℕ × StoredEntry)). option_map (λ (p : ℕ × StoredEntry). entered_of p.0 p.1) o)
    c.in-Some.is)
