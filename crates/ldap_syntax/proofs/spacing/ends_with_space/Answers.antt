-- What search doesn't prove of `ends_with_space`: what it returns, by lemmas of `Spaces`.
use Rattle.std.proofs.Common.{refl, ap, ◌∙◌, nat_eq}
use Rattle.ldap_syntax.proofs.Spaces.{last_space}
use Rattle.ldap_syntax.proofs.spacing.ends_with_space.Goals as goal

pub returns-in-len1-up : goal.returns-in-len1-up
returns-in-len1-up c = ap (λ x. nat_eq x 32) c.last-item.is ∙ last_space c.args.text.now c.last-item.result _
    c.in-len1-up.len_at_least refl
