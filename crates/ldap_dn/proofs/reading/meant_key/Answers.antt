-- What search doesn't prove of `meant_key`: the clause `found`, by lemmas of `Keys`.
use Rattle.std.proofs.Common.{Ok, Err, ◌≡◌, sym, ◌∙◌}
use Rattle.ldap_dn.proofs.Keys.{meant_found}
use Rattle.ldap_dn.proofs.reading.meant_key.Goals as goal

ok_err : {A B : Type 0} {x : A} {y : B} → Ok x ≡ Err y → ⊥
ok_err e = cc

pub returns-in-Ok-clause-found : goal.returns-in-Ok-clause-found
returns-in-Ok-clause-found c = meant_found _ _ _ (λ none. ok_err (sym c.in-Ok.is ∙ c.key.ensures.not_in_syntax.1
    none)) c.in-Ok.ensures.key
