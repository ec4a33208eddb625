-- What search doesn't prove of `keys_of`: the clause `keyed`, by lemmas of `Keyed`.
use Rattle.std.proofs.Common.{ℕ, Vec, Global, sym, ◌∙◌}
use Rattle.std.proofs.lemmas.Result.{IfOk-weaker}
use Rattle.dir_entry.proofs.Keyed.{keyed_from}
use Rattle.dir_entry.proofs.attribute.keys_of.Goals as goal

pub returns-in-Some-clause-keyed : goal.returns-in-Some-clause-keyed
returns-in-Some-clause-keyed c =
    IfOk-weaker c.keys_under.result _ _
    (λ keys h. keyed_from c.args.schema.now c.args.type_id c.in-Some.rule (λ (v : Vec ℕ Global). v.items)
    c.args.values.now keys.items (sym c.in-Some.is ∙ c.equality_rule.ensures) h)
    c.keys_under.ensures.keyed
