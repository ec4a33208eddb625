-- What search doesn't prove of `lowest_ranked`: what it returns, by lemmas of `Ordered` and `Ranked`.
use Rattle.std.proofs.Common.{◌∙◌}
use Rattle.std.proofs.lemmas.Result.{IfOk-weaker}
use Rattle.ldap_schema.specs.private.Lines.{is_under_in}
use Rattle.ldap_schema.proofs.Ordered.{lowest_by_rank}
use Rattle.ldap_schema.proofs.Ranked.{ranked_order}
use Rattle.ldap_schema.proofs.lines.lowest_ranked.Goals as goal

pub returns-in-len1-up : goal.returns-in-len1-up
returns-in-len1-up c =
    IfOk-weaker c.lowest_among.result _ _
    (λ o e.
    e
    ∙ lowest_by_rank (is_under_in c.args.classes.now) c.args.ranks.now (ranked_order c.args.classes.now
    c.args.ranks.now c.requires.known c.requires.ranking) c.args.named.now c.first-item.result
    c.greatest.result c.in-len1-up.len_at_least c.first-item.is c.greatest.ensures)
    c.lowest_among.ensures
