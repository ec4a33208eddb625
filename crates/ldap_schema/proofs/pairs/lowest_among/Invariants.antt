use Rattle.std.proofs.Common.{◌≡◌, drop}
use Rattle.ldap_schema.specs.Lines.{lowest_in}
use Rattle.ldap_schema.specs.private.Lines.{is_under_in}
use Rattle.ldap_schema.proofs.pairs.lowest_among.Given as goal

abbrev pub invariant-loop-class : goal.invariant-loop-class
invariant-loop-class l = lowest_in (is_under_in l.classes) (drop l.class-index l.named) l.others ≡
    lowest_in (is_under_in l.classes) l.named l.others
