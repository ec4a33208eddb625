-- What search doesn't prove of `delete_values`: the clause `keyed`, step by step.
use Rattle.std.proofs.lemmas.Result.{IfOk-weaker}
use Rattle.entry_changes.proofs.changing.delete_values.Goals as goal

pub returns-then-is_empty-clause-keyed : goal.returns-then-is_empty-clause-keyed
returns-then-is_empty-clause-keyed c = IfOk-weaker c.delete_attribute.result _ _ (λ e h. h c.requires)
    (c.delete_attribute.ensures.keyed c.args.schema.now)
