-- What search doesn't prove of `names_are_one_by_meaning`: what it returns, by lemmas of `MeantNames` and `Items`
-- (`ldap_match`).
use Rattle.ldap_match.proofs.Items.{KeyLaws}
use Rattle.schema_laws.proofs.MeantNames.{names_are_one_by_meaning}
use Rattle.schema_laws.proofs.naming.names_are_one_by_meaning.Goals as goal

pub returns : goal.returns
returns c =
    let laws : KeyLaws = record {
      present = c.keys_compare.ensures.present;
      equal = c.keys_compare.ensures.equal;
      ordered = c.keys_compare.ensures.ordered;
      stand = c.parts_compare.ensures;
      told =
          c.name_keys_are_of_names.ensures;
    } in
    names_are_one_by_meaning laws
