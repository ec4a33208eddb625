-- What search doesn't prove of `matches_are_items`: the clause `values` and the clause `pairs`, by lemmas of
-- `MatchValues` and `Items` (`dir_entry`).
use Rattle.dir_entry.proofs.ldap_match.Items.{KeyLaws, keys_mean}
use Rattle.ldap_eval.proofs.MatchValues.{on_values, on_pair}
use Rattle.ldap_eval.proofs.matching.matches_are_items.Goals as goal

pub returns-clause-values : goal.returns-clause-values
returns-clause-values c = λ s h a t values keys k.
    let laws : KeyLaws = record {
      present = c.keys_compare.ensures.present;
      equal = c.keys_compare.ensures.equal;
      ordered = c.keys_compare.ensures.ordered;
      stand = c.parts_compare.ensures;
      told =
          c.name_keys_are_of_names.ensures;
    } in
    on_values s h a (λ r. keys_mean laws s r) c.texts_tell.ensures t values keys k

pub returns-clause-pairs : goal.returns-clause-pairs
returns-clause-pairs c = λ s h a p.
    let laws : KeyLaws = record {
      present = c.keys_compare.ensures.present;
      equal = c.keys_compare.ensures.equal;
      ordered = c.keys_compare.ensures.ordered;
      stand = c.parts_compare.ensures;
      told =
          c.name_keys_are_of_names.ensures;
    } in
    on_pair s h a (λ r. keys_mean laws s r) c.texts_tell.ensures p
