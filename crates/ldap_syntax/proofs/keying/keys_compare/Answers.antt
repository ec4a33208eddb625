-- What search doesn't prove of `keys_compare`: the clause `present`, the clause `equal` and the clause `ordered`, by
-- lemmas of `Compare`.
use Rattle.ldap_syntax.proofs.Compare.{keys_are_present, keys_are_equal, keys_are_ordered}
use Rattle.ldap_syntax.proofs.keying.keys_compare.Goals as goal

pub returns-clause-present : goal.returns-clause-present
returns-clause-present c = keys_are_present

pub returns-clause-equal : goal.returns-clause-equal
returns-clause-equal c = keys_are_equal

pub returns-clause-ordered : goal.returns-clause-ordered
returns-clause-ordered c = keys_are_ordered
