-- What search doesn't prove of `touch`: the clause `keyed`, by a lemma of `dir_entry`.
use Rattle.std.proofs.Common.{sym, subst}
use Rattle.ldap_op.specs.ldap_parts.UpdateView.{change_view}
use Rattle.entry_changes.specs.dir_entry.Entry.{IsKeyedBy}
use Rattle.dir_entry.proofs.Keyed.{keyed_push}
use Rattle.entry_updates.specs.private.Touched.{AreValuesOf, IsNamed}
use Rattle.entry_updates.proofs.touching.touch.Goals as goal

pub returns-in_ok-push-in-Some-2-clause-keyed : goal.returns-in_ok-push-in-Some-2-clause-keyed
returns-in_ok-push-in-Some-2-clause-keyed c = λ before.
    let s = c.args.schema.now in
    let of : AreValuesOf s (change_view c.args.asked.now) c.in-Some.type_id c.in-Some-2.attribute =
    subst (IsNamed s (change_view c.args.asked.now) c.in-Some.type_id) c.in-Some-2.is c.in_ok-attribute.ensures in
    subst (IsKeyedBy s) (sym c.in_ok-push-in-Some-2.ensures.items)
    (keyed_push s c.args.touched.now.named.items c.in-Some-2.attribute of.keyed before)
