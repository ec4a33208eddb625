use Rattle.std.proofs.Common.{◌≡◌, drop}
use Rattle.ldap_dn.specs.Texts.{scanned, tokens_of}
use Rattle.ldap_dn.proofs.scanning.tokens.Given as goal

abbrev pub invariant-loop-octet : goal.invariant-loop-octet
invariant-loop-octet l = scanned l.tokens.items l.scan (drop l.octet-index l.text) ≡ tokens_of l.text
