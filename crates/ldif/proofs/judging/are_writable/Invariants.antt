-- LDIF and messages: what the loop of `are_writable` keeps.
use Rattle.std.proofs.Common.{◌≡◌, drop}
use Rattle.std.specs.List.{list_all}
use Rattle.ldif.specs.Exports.{is_writable}
use Rattle.ldif.proofs.judging.are_writable.Given as goal

abbrev pub invariant-loop-value : goal.invariant-loop-value
invariant-loop-value l = list_all is_writable (drop l.value-index l.values) ≡ list_all is_writable l.values
