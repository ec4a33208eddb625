-- What search doesn't prove of `is_one_chain`: what it returns, by lemmas of `Chained`.
use Rattle.std.proofs.Common.{sym, ◌∙◌}
use Rattle.std.proofs.lemmas.Result.{IfOk-weaker}
use Rattle.entry_updates.proofs.Chained.{chained}
use Rattle.entry_updates.proofs.obeying.is_one_chain.Goals as goal

pub returns : goal.returns
returns c =
    IfOk-weaker c.are_in_line.result _ _
    (λ b e. chained c.args.schema.now c.args.classes.now c.as_slice.result.now b e (c.as_slice.ensures.value
    ∙ c.in_ok-structural.ensures) (sym c.has_structural.ensures ∙ c.if-not-has_structural.false))
    c.are_in_line.ensures
