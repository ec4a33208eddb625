-- What search doesn't prove of `foreign_by`: what it returns, step by step.
use Rattle.std.proofs.Common.{ap, option_map, sym, ◌∙◌}
use Rattle.ldap_match.specs.ldap_schema.Schema.{find}
use Rattle.ldif_faults.specs.Values.{first_line, is_number}
use Rattle.ldif_faults.specs.Classes.{not_allowed, at_line_or, foreign_by}
use Rattle.ldif_faults.proofs.classes.foreign_by.Goals as goal

pub returns : goal.returns
returns c =
    let s = c.args.schema.now in
    let r = c.args.item.now in
    let t = c.in-Some.type_id in
    c.at_line_or.ensures
    ∙ ap (λ z. at_line_or r z (option_map (λ x. x.now) c.first_of-line.result)) c.in_ok-sentence.ensures
    ∙ ap (at_line_or r (not_allowed s t)) (c.first_of-line.ensures
    ∙ ap (first_line (λ line. is_number t (find s line.description))) c.lines.ensures)
    ∙ ap (foreign_by s r) (sym c.in-Some.is)
