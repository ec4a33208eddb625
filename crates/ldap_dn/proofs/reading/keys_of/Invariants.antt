use Rattle.std.proofs.Common.{◌≡◌, [], drop}
use Rattle.ldap_dn.specs.Texts.{keys_from}
use Rattle.ldap_dn.proofs.reading.keys_of.Given as goal

abbrev pub invariant-loop-one : goal.invariant-loop-one
invariant-loop-one l = keys_from l.schema l.keys.items (drop l.one-index l.written) ≡ keys_from l.schema [] l.written
