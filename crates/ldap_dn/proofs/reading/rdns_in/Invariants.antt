use Rattle.std.proofs.Common.{◌≡◌, [], map, drop}
use Rattle.ldap_dn.specs.Texts.{rdns_from}
use Rattle.ldap_dn.proofs.reading.rdns_in.Given as goal

abbrev pub invariant-loop-piece : goal.invariant-loop-piece
invariant-loop-piece l = rdns_from l.schema l.list.items (map (λ x. x.now) (drop l.piece-index l.pieces)) ≡
    rdns_from l.schema [] (map (λ x. x.now) l.pieces)
