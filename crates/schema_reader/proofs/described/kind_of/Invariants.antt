use Rattle.std.proofs.Common.{◌≡◌, drop}
use Rattle.schema_reader.specs.Described.{kind_of}
use Rattle.schema_reader.proofs.described.kind_of.Given as goal

abbrev pub invariant-loop-field : goal.invariant-loop-field
invariant-loop-field l = kind_of (drop l.field-index l.fields) ≡ kind_of l.fields
