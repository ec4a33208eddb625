-- LDIF and messages: what the loop of `first_wrong` keeps.
use Rattle.std.proofs.Common.{◌≡◌, drop}
use Rattle.ldif.specs.Exports.{first_wrong}
use Rattle.ldif.proofs.ending.first_wrong.Given as goal

abbrev pub invariant-loop-index : goal.invariant-loop-index
invariant-loop-index l = first_wrong (drop l.index l.meant) ≡ first_wrong l.meant
