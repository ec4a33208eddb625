-- What search doesn't prove of `names_are_of_texts`: what it returns, by lemmas of `NameTexts`.
use Rattle.ldap_dn.proofs.NameTexts.{names_of_texts}
use Rattle.ldap_dn.proofs.name.names_are_of_texts.Goals as goal

pub returns : goal.returns
returns c = names_of_texts
