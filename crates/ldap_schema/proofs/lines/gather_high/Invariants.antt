use Rattle.std.proofs.Common.{◌≡◌, ◌+◌, ◌-◌, length}
use Rattle.ldap_schema.specs.Superclasses.{filled, filled_from}
use Rattle.ldap_schema.specs.private.Lines.{cut}
use Rattle.ldap_schema.proofs.lines.gather_high.Given as goal

abbrev pub invariant-loop-place : goal.invariant-loop-place
invariant-loop-place l =
    filled_from (length l.named + length l.classes - l.place) (cut l.ranks l.low l.classes) l.place l.have ≡
    filled (cut l.ranks l.low l.classes) l.named
