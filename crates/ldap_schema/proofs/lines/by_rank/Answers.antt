-- What search doesn't prove of `by_rank`: the clause `rising`, step by step.
use Rattle.std.proofs.Common.{rules}
use Rattle.std.proofs.lemmas.List.Sorted.{IsNonDecreasingBy-from_sort_by_key}
use Rattle.ldap_schema.specs.Lines.{rank_in}
use Rattle.ldap_schema.proofs.lines.by_rank.Goals as goal

pub returns-clause-rising : goal.returns-clause-rising
returns-clause-rising c = IsNonDecreasingBy-from_sort_by_key (rank_in c.args.ranks.now) _
    c.in_ok-sort_by_key.ensures.sorted (λ a r q k. search rules)
