use Rattle.std.proofs.Common.{◌≡◌, drop}
use Rattle.std.specs.List.{list_all}
use Rattle.ldap_schema.specs.Lines.{is_either_under}
use Rattle.ldap_schema.specs.private.Lines.{is_under_in}
use Rattle.ldap_schema.proofs.pairs.is_in_line.Given as goal

abbrev pub invariant-loop-other : goal.invariant-loop-other
invariant-loop-other l =
    list_all (is_either_under (is_under_in l.classes) l.class) (drop l.other-index l.others) ≡
    list_all (is_either_under (is_under_in l.classes) l.class) l.others
