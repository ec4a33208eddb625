-- What search doesn't prove of `pairs_are_attributes`: the clause `pairs` and the clause `names`, by lemmas of
-- `PairValues` and `Items` (`ldap_match`).
use Rattle.ldap_match.proofs.Items.{KeyLaws, keys_mean}
use Rattle.schema_laws.proofs.PairValues.{pairs_are_attributes, names_are_attributes}
use Rattle.schema_laws.proofs.naming.pairs_are_attributes.Goals as goal

pub returns-clause-pairs : goal.returns-clause-pairs
returns-clause-pairs c =
    let laws : KeyLaws = record {
      present = c.keys_compare.ensures.present;
      equal = c.keys_compare.ensures.equal;
      ordered = c.keys_compare.ensures.ordered;
      stand = c.parts_compare.ensures;
      told =
          c.name_keys_are_of_names.ensures;
    } in
    pairs_are_attributes (λ s r. keys_mean laws s r) c.texts_tell.ensures

pub returns-clause-names : goal.returns-clause-names
returns-clause-names c =
    let laws : KeyLaws = record {
      present = c.keys_compare.ensures.present;
      equal = c.keys_compare.ensures.equal;
      ordered = c.keys_compare.ensures.ordered;
      stand = c.parts_compare.ensures;
      told =
          c.name_keys_are_of_names.ensures;
    } in
    names_are_attributes (λ s r. keys_mean laws s r) c.texts_tell.ensures
