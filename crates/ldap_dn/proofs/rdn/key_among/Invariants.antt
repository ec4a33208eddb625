use Rattle.std.proofs.Common.{◌≡◌, drop}
use Rattle.ldap_dn.specs.Pairs.{key_for}
use Rattle.ldap_dn.proofs.rdn.key_among.Given as goal

-- none of the keys so far is of the type
abbrev pub invariant-loop-key : goal.invariant-loop-key
invariant-loop-key l = key_for l.type_id (drop l.key-index l.keys) ≡ key_for l.type_id l.keys
