-- What search doesn't prove of `spaced`: what it returns, by lemmas of `Spaces`.
use Rattle.std.proofs.Common.{List, ℕ, ◌++◌, encode_utf8_all, ap, sym, ◌∙◌}
use Rattle.std.proofs.lemmas.Result.{IfOk-weaker}
use Rattle.ldap_syntax.specs.Text.{space_if}
use Rattle.ldap_syntax.proofs.Spaces.{spaced_blank, written}
use Rattle.ldap_syntax.proofs.spacing.spaced.Goals as goal

pub returns-then-not-has_word : goal.returns-then-not-has_word
returns-then-not-has_word c =
    IfOk-weaker c.blank.result _ _ (λ s e. e
    ∙ ap encode_utf8_all (sym (spaced_blank c.args.part c.args.text.now (sym c.has_word.ensures
    ∙ c.if-not-has_word.true)))) c.blank.ensures

pub returns : goal.returns
returns c =
    written c.args.part c.args.text.now _ _ _ _ _ (sym c.has_word.ensures ∙ c.if-not-has_word.false) c.is_led.ensures
    c.is_closed.ensures
    (c.in_ok-push_space_if.ensures ∙ ap (λ (x : List ℕ). x ++ space_if c.is_led.result) c.in_ok-out.ensures.bytes)
    c.in_ok-push_words.ensures
    c.in_ok-push_space_if-2.ensures
