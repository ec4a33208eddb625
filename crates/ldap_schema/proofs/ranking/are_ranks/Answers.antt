-- What search doesn't prove of `are_ranks`: `loop-number-preserved` and what it returns, by lemmas of `Ranked`.
use Rattle.std.proofs.Common.{sym, ◌∙◌}
use Rattle.ldap_schema.proofs.Ranked.{ranking_more, ranking_whole}
use Rattle.ldap_schema.proofs.ranking.are_ranks.Goals as goal

pub loop-number-preserved : goal.loop-number-preserved
loop-number-preserved c =
    ranking_more c.args.classes.now c.args.ranks.now c.loop-number.number c.new-class.result
    c.superclasses_of.result.now c.new-class.ensures c.superclasses_of.ensures
    (sym c.is_above_all.ensures ∙ c.if-not-is_above_all.false) c.loop-number.invariant

pub returns : goal.returns
returns c = λ t. ranking_whole c.args.classes.now c.args.ranks.now c.loop-number.number c.loop-number-test.false
    c.loop-number.invariant
