-- What search doesn't prove of `before`: what it returns, by lemmas of `Search`.
use Rattle.std.proofs.Common.{List, ℕ, ◌++◌, ap, sym, ◌∙◌}
use Rattle.ldap_syntax.proofs.Search.{match_weaker, back_is, back_is_not}
use Rattle.ldap_syntax.proofs.searching.before.Goals as goal

pub returns : goal.returns
returns c =
    match_weaker c.strip_suffix.result c.strip_suffix.ensures.cases
    (λ e x. back_is_not c.args.octets.now c.args.part.now x e)
    (λ r d. back_is c.args.octets.now c.args.part.now d.0 ∙ ap (λ (x : List ℕ). x ++ c.args.part.now) (sym d.1))
