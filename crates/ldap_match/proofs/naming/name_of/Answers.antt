-- What search doesn't prove of `name_of`: the clause `refused`, by lemmas of `Named`.
use Rattle.ldap_match.proofs.Named.{octets_not_named}
use Rattle.ldap_match.proofs.naming.name_of.Goals as goal

pub returns-in-Err-clause-refused : goal.returns-in-Err-clause-refused
returns-in-Err-clause-refused c = λ _. octets_not_named c.args.schema.now c.args.value.now c.in-Err.ensures.cases.0
