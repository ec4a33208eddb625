-- What search doesn't prove of `folded`: what it returns, by lemmas of `Ascii`.
use Rattle.std.proofs.Common.{sym, ◌∙◌}
use Rattle.std.proofs.lemmas.Result.{IfOk-weaker}
use Rattle.ldap_syntax.proofs.Ascii.{folded_ascii}
use Rattle.ldap_syntax.proofs.mapping.folded.Goals as goal

pub returns-then-is_ascii : goal.returns-then-is_ascii
returns-then-is_ascii c = IfOk-weaker c.lowered.result _ _ (λ v e. e
    ∙ sym (folded_ascii c.args.text.now c.if-is_ascii.ensures.cases)) c.lowered.ensures
