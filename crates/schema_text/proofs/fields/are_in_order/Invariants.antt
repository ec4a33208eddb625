use Rattle.std.proofs.Common.{◌≡◌, drop}
use Rattle.schema_text.specs.Descriptions.{are_in_order}
use Rattle.schema_text.proofs.fields.are_in_order.Given as goal

abbrev pub invariant-loop-field : goal.invariant-loop-field
invariant-loop-field l = are_in_order l.last (drop l.field-index l.fields) ≡ are_in_order 0 l.fields
