-- What search doesn't prove of `kept`: what `held` requires and the invariant, by lemmas of `Picked`.
use Rattle.std.proofs.Common.{map, ap, sym, ◌∙◌}
use Rattle.ldap_match.specs.ldap_syntax.Forms.{form_of}
use Rattle.value_parts.specs.Kept.{values_in}
use Rattle.value_parts.specs.Picked.{picked}
use Rattle.value_parts.proofs.Picked.{map_picked}
use Rattle.dir_entry.proofs.attribute.Attribute.kept.Goals as goal

pub held-requires : goal.held-requires
held-requires c =
    c.in_ok-lists.ensures.forms ∙ ap (picked c.args.marks.now) c.in_ok-into_lists.ensures.forms
    ∙ ap (picked c.args.marks.now) c.self.invariant
    ∙ sym (map_picked form_of c.args.marks.now (values_in c.self.inside.held))
    ∙ sym (ap (map form_of) (c.in_ok-lists.ensures.values ∙ ap (picked c.args.marks.now)
    c.in_ok-into_lists.ensures.values))

pub invariant_of-result : goal.invariant_of-result
invariant_of-result c =
    c.in_ok-held.ensures.forms ∙ c.in_ok-lists.ensures.forms ∙ ap (picked c.args.marks.now)
    c.in_ok-into_lists.ensures.forms
    ∙ ap (picked c.args.marks.now) c.self.invariant
    ∙ sym (map_picked form_of c.args.marks.now (values_in c.self.inside.held))
    ∙ sym (ap (map form_of) (c.in_ok-held.ensures.values ∙ c.in_ok-lists.ensures.values ∙ ap (picked c.args.marks.now)
    c.in_ok-into_lists.ensures.values))
