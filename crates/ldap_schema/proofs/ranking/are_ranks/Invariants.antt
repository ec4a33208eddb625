use Rattle.ldap_schema.specs.private.Lines.{IsRankingBelow}
use Rattle.ldap_schema.proofs.ranking.are_ranks.Given as goal

abbrev pub invariant-loop-number : goal.invariant-loop-number
invariant-loop-number l = IsRankingBelow l.classes l.ranks l.number
