-- What search doesn't prove of `index_of`: what it returns, by lemmas of `NumbersKept` (`ldap_words`).
use Rattle.std.proofs.Common.{◌∙◌}
use Rattle.ldap_words.proofs.NumbersKept.{number_lookup}
use Rattle.ldif.proofs.adding.index_of.Goals as goal

pub returns-in-Some : goal.returns-in-Some
returns-in-Some c = c.in-Some.ensures.value ∙ number_lookup c.args.folded.now c.args.indexes.now.entries

pub returns-in-None : goal.returns-in-None
returns-in-None c = c.in-None.ensures.value ∙ number_lookup c.args.folded.now c.args.indexes.now.entries
