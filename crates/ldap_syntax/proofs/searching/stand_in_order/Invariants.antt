use Rattle.std.proofs.Common.{drop}
use Rattle.ldap_syntax.proofs.Search.{SameSearch}
use Rattle.ldap_syntax.proofs.searching.stand_in_order.Given as goal

abbrev pub invariant-loop-part : goal.invariant-loop-part
invariant-loop-part l = SameSearch l.parts (drop l.part-index l.parts) l.octets l.rest
