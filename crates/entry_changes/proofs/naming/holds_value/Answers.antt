-- What search doesn't prove of `holds_value`: what it returns, by lemmas of `Held`.
use Rattle.std.proofs.Common.{ap, sym, ◌∙◌}
use Rattle.dir_entry.specs.ldap_schema.Rules.{equality_of}
use Rattle.entry_changes.proofs.Held.{held_by_octets}
use Rattle.entry_changes.proofs.naming.holds_value.Goals as goal

pub returns-in-None : goal.returns-in-None
returns-in-None c =
    c.has.ensures
    ∙ held_by_octets c.args.schema.now c.args.attribute.now.kind c.args.value.now c.args.attribute.now.values
    (ap (equality_of c.args.schema.now) (sym c.type_id.ensures) ∙ sym c.equality_rule.ensures ∙ c.in-None.is)
