use Rattle.std.proofs.Common.{◌≡◌, ◌+◌, ◌-◌, length}
use Rattle.ldap_schema.specs.Superclasses.{filled, filled_from}
use Rattle.ldap_schema.proofs.superclasses.gather.Given as goal

abbrev pub invariant-loop-place : goal.invariant-loop-place
invariant-loop-place l = filled_from (length l.named + length l.classes - l.place) l.classes l.place l.have ≡
    filled l.classes l.named
