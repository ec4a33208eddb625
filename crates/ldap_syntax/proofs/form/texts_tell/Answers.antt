-- What search doesn't prove of `texts_tell`: what it returns, by lemmas of `Told`.
use Rattle.ldap_syntax.proofs.Told.{told}
use Rattle.ldap_syntax.proofs.form.texts_tell.Goals as goal

pub returns : goal.returns
returns c = λ r less k v u t. told r.family r.syntax less k v u t
