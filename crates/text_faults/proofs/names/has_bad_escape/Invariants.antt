use Rattle.std.proofs.Common.{◌≡◌, drop, is_none}
use Rattle.ldap_match.specs.ldap_dn.Texts.{tokens_of}
use Rattle.text_faults.specs.private.Names.{scan_of}
use Rattle.text_faults.proofs.Escaping.{fails}
use Rattle.text_faults.proofs.names.has_bad_escape.Given as goal

abbrev pub invariant-loop-octet : goal.invariant-loop-octet
invariant-loop-octet l = fails (scan_of l.escape) (drop l.octet-index l.text) ≡ is_none (tokens_of l.text)
