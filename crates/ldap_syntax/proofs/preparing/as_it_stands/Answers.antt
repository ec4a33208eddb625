-- What search doesn't prove of `as_it_stands`: what it returns, step by step.
use Rattle.std.proofs.Common.{sym, ◌∙◌}
use Rattle.std.proofs.lemmas.Result.{IfOk-weaker}
use Rattle.std.proofs.lemmas.Str.{encodes-chars}
use Rattle.ldap_syntax.proofs.preparing.as_it_stands.Goals as goal

pub returns : goal.returns
returns c = IfOk-weaker c.from_str.result _ _ (λ s e. e ∙ sym (encodes-chars c.args.text.now c.utf8.text))
    c.from_str.ensures.ok
