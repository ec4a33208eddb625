-- What search doesn't prove of `are_numbers`: what it returns, step by step.
use Rattle.std.proofs.Common.{rules, tests, nat_eq}
use Rattle.std.proofs.lemmas.Iterator.Search.{all_from_yields_List}
use Rattle.std.proofs.lemmas.Iterator.Splits.{YieldsList-from_slice_split}
use Rattle.ldap_words.specs.Numbers.{is_number}
use Rattle.ldap_words.proofs.identifying.are_numbers.Goals as goal

pub returns : goal.returns
returns c =
    all_from_yields_List is_number _ _ _ c.all.ensures.ran
    (YieldsList-from_slice_split _ (λ c. nat_eq c 46) c.args.value.now c.split.ensures.rest c.split.ensures.done
    c.split.ensures.closure (λ x b q k. search (rules, tests)))
    (λ x b q k. search (rules, tests))
