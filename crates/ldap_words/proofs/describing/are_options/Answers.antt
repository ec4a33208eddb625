-- Descriptions: the goal of `are_options`.
use Rattle.std.proofs.Common.{rules, tests, nat_eq}
use Rattle.std.proofs.lemmas.Iterator.Search.{all_from_yields_List}
use Rattle.std.proofs.lemmas.Iterator.Splits.{YieldsList-from_slice_split}
use Rattle.ldap_words.specs.Words.{is_option}
use Rattle.ldap_words.proofs.describing.are_options.Goals as goal

pub returns : goal.returns
returns c =
    all_from_yields_List is_option _ _ _ c.all.ensures.ran
    (YieldsList-from_slice_split _ (λ c. nat_eq c 59) c.args.octets.now c.split.ensures.rest c.split.ensures.done
    c.split.ensures.closure (λ x b q k. search (rules, tests)))
    (λ x b q k. search (rules, tests))
