-- What search doesn't prove of `name_of_text`: the clause `found`, by lemmas of `Named`.
use Rattle.ldap_match.proofs.Named.{text_named}
use Rattle.ldap_match.proofs.naming.name_of_text.Goals as goal

pub returns-in-Ok-clause-found : goal.returns-in-Ok-clause-found
returns-in-Ok-clause-found c = text_named c.args.schema.now c.args.text.now c.utf8.text c.in-Ok.ensures.found
