use Rattle.std.proofs.Common.{◌≡◌, map, take}
use Rattle.ldap_dn.specs.Tokens.{octet_of}
use Rattle.ldap_dn.proofs.reading.description_of.Given as goal

abbrev pub invariant-loop-token : goal.invariant-loop-token
invariant-loop-token l = l.description.items ≡ map octet_of (take l.token-index l.tokens)
