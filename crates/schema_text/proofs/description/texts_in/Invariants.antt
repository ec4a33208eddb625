use Rattle.std.proofs.Common.{◌≡◌, drop}
use Rattle.schema_text.specs.Keywords.{place_of}
use Rattle.schema_text.specs.Descriptions.{texts_at}
use Rattle.schema_text.proofs.description.texts_in.Given as goal

abbrev pub invariant-loop-field : goal.invariant-loop-field
invariant-loop-field l = texts_at (place_of l.keyword) (drop l.field-index l.fields) ≡ texts_at (place_of l.keyword)
    l.fields
