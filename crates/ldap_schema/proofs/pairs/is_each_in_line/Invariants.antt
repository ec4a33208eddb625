use Rattle.std.proofs.Common.{◌≡◌, drop}
use Rattle.std.specs.List.{list_all}
use Rattle.ldap_schema.specs.Lines.{is_either_under, are_all_in_line}
use Rattle.ldap_schema.specs.private.Lines.{is_under_in}
use Rattle.ldap_schema.proofs.pairs.is_each_in_line.Given as goal

abbrev pub invariant-loop-class : goal.invariant-loop-class
invariant-loop-class l =
    list_all (λ a. list_all (is_either_under (is_under_in l.classes) a) l.named) (drop l.class-index l.named) ≡
    are_all_in_line (is_under_in l.classes) l.named
