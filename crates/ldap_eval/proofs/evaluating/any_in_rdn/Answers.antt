-- What search doesn't prove of `any_in_rdn`: what it returns, by lemmas of `Named`.
use Rattle.std.proofs.Common.{List, map, ap, sym, ◌∙◌}
use Rattle.dir_entry.specs.ldap_dn.Names.{TypeAndValue}
use Rattle.dir_entry.specs.ldap_dn.Pairs.{pair_in}
use Rattle.dir_entry.specs.ldap_match.Truth.{disjunction}
use Rattle.ldap_eval.specs.Bound.{match_on_name_pair}
use Rattle.ldap_eval.proofs.Named.{map_map}
use Rattle.ldap_eval.proofs.evaluating.any_in_rdn.Goals as goal

pub returns : goal.returns
returns c =
    let f = match_on_name_pair c.args.matching.now in
    let g = pair_in c.args.rdn.now.keys in
    c.any_written.ensures
    ∙ ap (λ (vs : List TypeAndValue). disjunction (map (λ (v : TypeAndValue). f (g v)) vs)) c.types_and_values.ensures
    ∙ ap disjunction (sym (map_map f g c.args.rdn.now.spelling))
