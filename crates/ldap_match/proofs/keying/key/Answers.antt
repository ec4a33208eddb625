-- What search doesn't prove of `key`: what it returns, by lemmas of `Plain`.
use Rattle.std.proofs.Common.{sym, ◌∙◌}
use Rattle.std.proofs.lemmas.Result.{IfOk-weaker}
use Rattle.ldap_match.specs.Meaning.{meaning}
use Rattle.ldap_match.proofs.Plain.{plain_meaning, plain_key, meant_at_ok}
use Rattle.ldap_match.proofs.keying.key.Goals as goal

pub returns-in_default : goal.returns-in_default
returns-in_default c =
    let means = plain_meaning c.args.schema.now c.args.rule c.args.value.now c.in_default.not-Name in
    let keyed = plain_key c.args.schema.now c.args.rule c.args.value.now c.in_default.not-Name in
    record {
      key = IfOk-weaker c.key.result _ _ (λ k h. keyed ∙ h) c.key.ensures.key;
      meant = meant_at_ok c.key.result (meaning c.args.schema.now c.args.rule c.args.value.now)
          (λ none. c.key.ensures.not_in_syntax.1 (sym means ∙ none));
      not_in_syntax = λ e. means ∙ c.key.ensures.not_in_syntax.0 e;
      at_once = λ _ none. c.key.ensures.not_in_syntax.1 (sym means ∙ none);
    }
