-- What search doesn't prove of `text_of`: what it returns, by lemmas of `Told`.
use Rattle.std.proofs.Common.{ap, ◌∙◌, Err}
use Rattle.ldap_syntax.proofs.Told.{no_key}
use Rattle.ldap_syntax.proofs.texts.text_of.Goals as goal

pub returns-in-Err-NotInSyntax : goal.returns-in-Err-NotInSyntax
returns-in-Err-NotInSyntax c =
    no_key (record { family = c.args.family; syntax = c.args.syntax }) c.args.octets.now c.keys_compare.ensures.present
    (c.key_of.ensures.not_in_syntax.0 (c.in-Err-NotInSyntax.is ∙ ap Err c.in-Err-NotInSyntax.field-0-is))
