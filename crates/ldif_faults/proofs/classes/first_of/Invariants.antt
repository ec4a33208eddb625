use Rattle.std.proofs.Common.{◌≡◌, drop}
use Rattle.ldap_match.specs.ldap_schema.Schema.{find}
use Rattle.ldif_faults.specs.Values.{first_line, is_number}
use Rattle.ldif_faults.proofs.classes.first_of.Given as goal

abbrev pub invariant-loop-line : goal.invariant-loop-line
invariant-loop-line l =
    first_line (λ line. is_number l.type_id (find l.schema line.description)) (drop l.line-index l.lines) ≡
    first_line (λ line. is_number l.type_id (find l.schema line.description)) l.lines
