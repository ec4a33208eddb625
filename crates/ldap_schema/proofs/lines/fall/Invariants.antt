use Rattle.std.proofs.Common.{◌≡◌, drop}
use Rattle.ldap_schema.specs.private.Lines.{falls, is_under_in}
use Rattle.ldap_schema.proofs.lines.fall.Given as goal

abbrev pub invariant-loop-class : goal.invariant-loop-class
invariant-loop-class l = falls (is_under_in l.classes) l.above (drop l.class-index l.others) ≡
    falls (is_under_in l.classes) l.fn.first l.others
