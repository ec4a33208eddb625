-- What search doesn't prove of `has_parts_of`: what it returns, by lemmas of `Items`.
use Rattle.std.proofs.Common.{Err, ap, sym, ◌∙◌}
use Rattle.ldap_match.proofs.Items.{parts_answer, parts_do_not_answer}
use Rattle.ldap_match.proofs.testing.has_parts_of.Goals as goal
use Rattle.ldap_match.proofs.testing.has_parts_of.Goals.{in-Ok, in-Err-NotInSyntax, in-Err-NoMemory}

pub returns : goal.returns
returns c =
    elim c.match-part_keys.branch [
      | in-Ok w ↦ rw w.result-is (parts_answer c.args.schema.now c.args.type_id c.in-Some.rule _ _
          (sym c.substrings_rule.ensures ∙ c.in-Some.is) w.in-Ok.ensures.key)
      | in-Err-NotInSyntax w ↦ rw w.result-is (parts_do_not_answer c.args.schema.now c.args.type_id c.in-Some.rule _
          (sym c.substrings_rule.ensures ∙ c.in-Some.is) (w.in-Err-NotInSyntax.ensures.not_in_syntax
          (ap Err w.in-Err-NotInSyntax.field-0-is)))
      | in-Err-NoMemory w ↦ rw w.result-is tt
    ]
