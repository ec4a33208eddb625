-- LDIF and messages: what the loop of `put_lines` keeps.
use Rattle.std.proofs.Common.{◌≡◌, ◌++◌, drop, map}
use Rattle.ldif.specs.Entries.{lines_with}
use Rattle.ldif.proofs.showing.put_lines.Given as goal

abbrev pub invariant-loop-octets : goal.invariant-loop-octets
invariant-loop-octets l = l.values.items ++ lines_with l.description
    (map (λ v. v.items) (drop l.octets-index l.given)) ≡ l.fn.values.items ++ lines_with l.description
    (map (λ v. v.items) l.given)
