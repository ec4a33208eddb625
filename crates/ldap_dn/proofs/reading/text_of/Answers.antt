-- What search doesn't prove of `text_of`: the clause `found` and the clause `refused`, by lemmas of `Keys`.
use Rattle.std.proofs.Common.{ap}
use Rattle.std.proofs.lemmas.Str.{IsUtf8-string_bytes}
use Rattle.ldap_dn.proofs.Keys.{text_found, text_missing, err_not_ok}
use Rattle.ldap_dn.proofs.reading.text_of.Goals as goal

pub returns-in-Ok-clause-found : goal.returns-in-Ok-clause-found
returns-in-Ok-clause-found c = text_found c.args.octets.items (ap (λ v. v.items) c.in-Ok.ensures.ok)
    (IsUtf8-string_bytes c.in-Ok.text)

pub returns-clause-refused : goal.returns-clause-refused
returns-clause-refused c = λ _. text_missing c.args.octets.items (λ u. err_not_ok c.from_utf8.result c.in-Err.is
    (c.from_utf8.ensures.succeeds u))
