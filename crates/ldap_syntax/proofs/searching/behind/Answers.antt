-- What search doesn't prove of `behind`: what it returns, by lemmas of `Search`.
use Rattle.std.proofs.Common.{List, ℕ, ◌++◌, ap, sym, ◌∙◌}
use Rattle.ldap_syntax.proofs.Search.{match_weaker, front_is, front_is_not}
use Rattle.ldap_syntax.proofs.searching.behind.Goals as goal

pub returns : goal.returns
returns c =
    match_weaker c.strip_prefix.result c.strip_prefix.ensures.cases
    (λ e x. front_is_not c.args.octets.now c.args.part.now x e)
    (λ r d. front_is c.args.octets.now c.args.part.now d.0 ∙ ap (λ (x : List ℕ). c.args.part.now ++ x) (sym d.1))
