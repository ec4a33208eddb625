use Rattle.std.proofs.Common.{◌≡◌, ◌++◌, drop}
use Rattle.schema_reader.specs.Described.{types_from}
use Rattle.schema_reader.proofs.described.types_of.Given as goal

abbrev pub invariant-loop-number : goal.invariant-loop-number
invariant-loop-number l = l.found.items ++ types_from l.types l.number (drop l.number l.types) ≡ types_from l.types 0
    l.types
