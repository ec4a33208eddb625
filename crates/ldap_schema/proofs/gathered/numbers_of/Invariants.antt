use Rattle.std.proofs.Common.{take}
use Rattle.ldap_schema.specs.private.Marks.{AreNumbersOf}
use Rattle.ldap_schema.proofs.gathered.numbers_of.Given as goal

abbrev pub invariant-loop-class : goal.invariant-loop-class
invariant-loop-class l = AreNumbersOf (take l.class-index l.classes) l.numbers
