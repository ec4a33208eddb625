-- What search doesn't prove of `item_test`: what it returns, step by step.
use Rattle.ldap_eval.proofs.binding.item_test.Goals as goal

pub returns-in-Substrings : goal.returns-in-Substrings
returns-in-Substrings c = rw c.in-Substrings.is (rw c.deref.ensures.value at c.substrings_test.ensures)
