-- What search doesn't prove of `tests_are_items`: what it returns, by lemmas of `Items`.
use Rattle.ldap_match.proofs.Items.{KeyLaws, keys_mean, tests_item}
use Rattle.ldap_match.proofs.testing.tests_are_items.Goals as goal

pub returns : goal.returns
returns c = λ s asked t values keys k.
    let laws : KeyLaws = record {
      present = c.keys_compare.ensures.present;
      equal = c.keys_compare.ensures.equal;
      ordered = c.keys_compare.ensures.ordered;
      stand = c.parts_compare.ensures;
      told =
          c.name_keys_are_of_names.ensures;
    } in
    tests_item s asked t values keys (λ r. keys_mean laws s r) k
