-- What search doesn't prove of `lists_without`: the clause `texts`, by a lemma of `Picked`.
use Rattle.std.proofs.Common.{map, ap, sym, ◌∙◌}
use Rattle.ldap_match.specs.ldap_syntax.Forms.{form_of}
use Rattle.value_parts.specs.Picked.{picked}
use Rattle.value_parts.proofs.Picked.{map_picked}
use Rattle.value_parts.proofs.without.lists_without.Goals as goal

pub returns-clause-texts : goal.returns-clause-texts
returns-clause-texts c = λ h.
    c.in_ok-left.ensures.forms ∙ ap (picked c.deref.result.now) h
    ∙ sym (map_picked form_of c.deref.result.now c.args.lists.values.items)
    ∙ ap (map form_of) (sym c.in_ok-left.ensures.values)
