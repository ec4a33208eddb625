use Rattle.std.proofs.Common.{◌≡◌, drop}
use Rattle.schema_text.specs.Keywords.{place_of}
use Rattle.schema_text.specs.Descriptions.{has_field_at}
use Rattle.schema_text.proofs.description.has_field_in.Given as goal

abbrev pub invariant-loop-field : goal.invariant-loop-field
invariant-loop-field l = has_field_at (place_of l.keyword) (drop l.field-index l.fields) ≡ has_field_at
    (place_of l.keyword) l.fields
