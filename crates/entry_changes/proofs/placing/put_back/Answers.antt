-- What search doesn't prove of `put_back`: the clause `shown` and the clause `keyed`, by lemmas of `Placed`.
use Rattle.std.proofs.Common.{ap, ◌∙◌, subst, sym}
use Rattle.std.proofs.lemmas.Result.{IfOk-weaker}
use Rattle.dir_entry.specs.Entry.{attributes_of, IsKeyedBy}
use Rattle.entry_changes.proofs.Placed.{put_shown, gone_shown, keyed_inserted}
use Rattle.entry_changes.proofs.placing.put_back.Goals as goal

pub returns-then-is_empty-clause-shown : goal.returns-then-is_empty-clause-shown
returns-then-is_empty-clause-shown c = gone_shown c.args.place (attributes_of c.args.attributes.items)
    c.args.attribute.kind c.args.attribute.values (sym c.if-is_empty.ensures)

pub returns-clause-shown : goal.returns-clause-shown
returns-clause-shown c = IfOk-weaker c.insert_attribute.result _ _
    (λ v e. ap attributes_of e ∙ put_shown c.args.place c.args.attributes.items c.args.attribute
    (sym c.if-is_empty.ensures)) c.insert_attribute.ensures

pub returns-clause-keyed : goal.returns-clause-keyed
returns-clause-keyed c = λ s. IfOk-weaker c.insert_attribute.result _ _
    (λ v e k h. subst (IsKeyedBy s) (sym e) (keyed_inserted s c.args.place c.args.attributes.items c.args.attribute h
    k)) c.insert_attribute.ensures
