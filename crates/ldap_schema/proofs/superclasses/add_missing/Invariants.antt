use Rattle.std.proofs.Common.{◌≡◌, drop}
use Rattle.ldap_schema.specs.Superclasses.{with_missing}
use Rattle.ldap_schema.proofs.superclasses.add_missing.Given as goal

abbrev pub invariant-loop-class : goal.invariant-loop-class
invariant-loop-class l = with_missing l.have (drop l.class-index l.classes) ≡ with_missing l.fn.have l.classes
