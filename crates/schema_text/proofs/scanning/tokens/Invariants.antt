use Rattle.std.proofs.Common.{◌≡◌, drop}
use Rattle.schema_text.specs.Tokens.{scanned, tokens_of}
use Rattle.schema_text.proofs.scanning.tokens.Given as goal

abbrev pub invariant-loop-octet : goal.invariant-loop-octet
invariant-loop-octet l = scanned l.tokens.items l.scan (drop l.octet-index l.octets) ≡ tokens_of l.octets
