-- What search doesn't prove of `compare_folded`: what it returns, by lemmas of `OctetOrder`.
use Rattle.std.proofs.Common.{◌∙◌}
use Rattle.std.specs.Char.{to_ascii_lowercase}
use Rattle.ldap_words.proofs.OctetOrder.{longer}
use Rattle.ldap_words.proofs.folding.compare_folded.Goals as goal

pub returns-in-None : goal.returns-in-None
returns-in-None c =
    longer c.args.kept.now c.loop-octet.rest.now c.loop-octet.octet-index to_ascii_lowercase c.loop-octet-test.true
    c.in-None.ensures.cases ∙ c.loop-octet.invariant
