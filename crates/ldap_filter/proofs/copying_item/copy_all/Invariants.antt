-- What the loop of `copy_all` keeps.
use Rattle.std.proofs.Common.{◌≡◌, ◌++◌, drop, map}
use Rattle.ldap_filter.proofs.copying_item.copy_all.Given as goal

abbrev pub invariant-loop-octets : goal.invariant-loop-octets
invariant-loop-octets l = map (λ v. v.items) l.copies.items ++ map (λ v. v.items) (drop l.octets-index l.all) ≡
    map (λ v. v.items) l.all
