-- LDIF and messages: what the loop of `meant_by_all` keeps.
use Rattle.std.proofs.Common.{take, map}
use Rattle.ldif.specs.Exports.{AllMean}
use Rattle.ldif.proofs.judging.meant_by_all.Given as goal

abbrev pub invariant-loop-octets : goal.invariant-loop-octets
invariant-loop-octets l = AllMean (map (λ v. v.items) (take l.octets-index l.messages)) l.all.items
