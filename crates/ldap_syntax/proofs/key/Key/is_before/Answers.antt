-- What search doesn't prove of `is_before`: what it returns, step by step.
use Rattle.std.proofs.Common.{ap₂, ◌∙◌, refl, arith}
use Rattle.std.specs.Ordering.{nat_cmp, is_lt}
use Rattle.std.proofs.lemmas.Cmp.{same_from_slice_cmp_tested}
use Rattle.std.proofs.lemmas.Bool.Decides.{nat_tests}
use Rattle.ldap_syntax.specs.Meaning.{is_before}
use Rattle.ldap_syntax.proofs.key.Key.is_before.Goals as goal

pub returns : goal.returns
returns c =
    same_from_slice_cmp_tested nat_cmp is_lt is_before refl (λ _ _. refl) (λ _ _. refl)
    (λ x y xs ys o h. grind (arith, nat_tests))
    c.as_octets.result.now c.as_octets-2.result.now c.lt.result c.lt.ensures
    ∙ ap₂ is_before c.as_octets.ensures c.as_octets-2.ensures
