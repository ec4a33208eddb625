use Rattle.std.proofs.Common.{◌≡◌, drop}
use Rattle.ldap_schema.specs.private.Lines.{greatest}
use Rattle.ldap_schema.proofs.lines.greatest.Given as goal

abbrev pub invariant-loop-class : goal.invariant-loop-class
invariant-loop-class l = greatest l.ranks l.best (drop l.class-index l.others) ≡ greatest l.ranks l.fn.first l.others
