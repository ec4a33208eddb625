-- What search doesn't prove of `complete_attribute`: what `unreachable` requires, by lemmas of `Named` and `Completed`.
use Rattle.std.proofs.Common.{ℕ, true, false, Vec, Global, Err, ap, sym, ◌∙◌, ◌≡◌, subst}
use Rattle.dir_entry.specs.ldap_schema.ObjectClassType.{IsObjectClassType}
use Rattle.entry_updates.proofs.Named.{classes_in_syntax}
use Rattle.entry_updates.proofs.Completed.{same_kind}
use Rattle.entry_updates.proofs.completing.complete_attribute.Goals as goal

true_false : true ≡ false → ⊥
true_false h = cc

pub unreachable-requires : goal.unreachable-requires
unreachable-requires c =
    true_false (sym (classes_in_syntax c.args.schema.now c.args.attribute.kind (λ (v : Vec ℕ Global). v.items)
    c.in_ok-names.names.items
    (subst (IsObjectClassType c.args.schema.now) (same_kind c.type_id.result c.object_class_type.result
    c.if-ne.ensures ∙ c.type_id.ensures) c.object_class_type.ensures) c.in_ok-names.ensures.named)
    ∙ c.in-Err-NotInSyntax.ensures.refused (ap Err c.in-Err-NotInSyntax.field-0-is))
