-- What the loops of `number` keep, and what grows less.
use Rattle.std.proofs.Common.{◌≡◌, ◌*◌, ◌^◌, ◌<◌, take}
use Rattle.ldap_ber.specs.Number.{number}
use Rattle.ldap_ber.proofs.octets.number.Given as goal

abbrev pub invariant-loop-octet : goal.invariant-loop-octet
invariant-loop-octet l = record {
  value : l.n ≡ number (take l.octet-index l.octets);
  small :
      l.n < 2 ^ (8 * l.octet-index);
}
