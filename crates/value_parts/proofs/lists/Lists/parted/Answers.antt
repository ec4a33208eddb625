-- What search doesn't prove of `parted`: the clause `texts`.
use Rattle.std.proofs.Common.{ap, sym, map, take, drop, ◌∙◌}
use Rattle.std.proofs.lemmas.List.{take-map, drop-map}
use Rattle.ldap_match.specs.ldap_syntax.Forms.{form_of}
use Rattle.value_parts.proofs.lists.Lists.parted.Goals as goal

pub returns-clause-texts : goal.returns-clause-texts
returns-clause-texts c = λ h. (
  c.in_ok-more_forms.ensures.first ∙ ap (take c.args.place) h ∙ take-map form_of c.args.place c.args.self.values.items
      ∙ ap (map form_of) (sym c.in_ok-more.ensures.first),
  c.in_ok-more_forms.ensures.last ∙ ap (drop c.args.place) h ∙ drop-map form_of c.args.place c.args.self.values.items
      ∙ ap (map form_of) (sym c.in_ok-more.ensures.last),
)
