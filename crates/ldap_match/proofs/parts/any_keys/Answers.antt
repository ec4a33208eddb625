-- What search doesn't prove of `any_keys`: the clause `key`, by lemmas of `Keys`.
use Rattle.std.proofs.Common.{map, ap, arith}
use Rattle.std.proofs.lemmas.List.{drop_all}
use Rattle.ldap_match.proofs.Keys.{all_keys}
use Rattle.ldap_match.proofs.parts.any_keys.Goals as goal

pub returns-clause-key : goal.returns-clause-key
returns-clause-key c =
    all_keys _ _ _ _ c.loop-part.invariant (ap (map (λ x. x.items)) (drop_all c.loop-part.part-index c.args.any.now
    (omega (arith, c.loop-part-test.false))))
