-- What search doesn't prove of `normal`: what it returns, by lemmas of `Ascii`.
use Rattle.std.proofs.Common.{sym, ◌∙◌}
use Rattle.ldap_syntax.proofs.Ascii.{normal_ascii}
use Rattle.ldap_syntax.proofs.mapping.normal.Goals as goal

pub returns-then-is_ascii : goal.returns-then-is_ascii
returns-then-is_ascii c = c.in_ok-mapped.ensures ∙ sym (normal_ascii c.args.text.now c.if-is_ascii.ensures.cases)
