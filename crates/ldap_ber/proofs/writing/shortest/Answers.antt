-- The goals of `shortest` that no tactic closes, each by one lemma over plain lists.
use Rattle.ldap_ber.proofs.Written.{written, shortest}
use Rattle.ldap_ber.proofs.writing.shortest.Goals as goal

pub returns : goal.returns
returns c = λ first content low small.
    (written first content low small, λ other is. shortest first content other small is)
