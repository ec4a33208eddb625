-- What search doesn't prove of `key_or_none`: what it returns, by lemmas of `Items`.
use Rattle.std.proofs.Common.{ap, ◌∙◌, Err}
use Rattle.ldap_match.proofs.Items.{no_key}
use Rattle.ldap_match.proofs.testing.key_or_none.Goals as goal

pub returns-in-Err-NotInSyntax : goal.returns-in-Err-NotInSyntax
returns-in-Err-NotInSyntax c =
    no_key c.args.schema.now c.args.rule c.args.value.now c.keys_compare.ensures.present
    (c.key.ensures.not_in_syntax (c.in-Err-NotInSyntax.is ∙ ap Err c.in-Err-NotInSyntax.field-0-is))
