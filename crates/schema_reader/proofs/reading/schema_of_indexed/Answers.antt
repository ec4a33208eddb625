-- What search doesn't prove of `schema_of_indexed`: what `of_parts` requires, by lemmas of `Judged`.
use Rattle.std.proofs.Common.{List, ap, sym, ◌∙◌}
use Rattle.schema_meaning.specs.schema_text.Descriptions.{DescriptionModel}
use Rattle.schema_reader.specs.Described.{types_from}
use Rattle.schema_reader.specs.Reading.{fault_of, required_in}
use Rattle.schema_reader.proofs.Judged.{loopless_of, known_of, object_class_of, model, same_model}
use Rattle.schema_reader.proofs.reading.schema_of_indexed.Goals as goal

pub of_parts-requires-clause-loopless : goal.of_parts-requires-clause-loopless
of_parts-requires-clause-loopless c =
    loopless_of c.args.text.now c.in_ok-types.types.items c.in_ok-classes.classes.items
    (c.in_ok-types.ensures ∙ ap (λ (ds : List DescriptionModel). types_from ds 0 ds) c.types.ensures)
    (sym (same_model (fault_of c.args.text.now) c.as_slice.ensures.value c.as_slice-2.ensures.value)
    ∙ c.in_ok-object_class.ensures.fine.0)

pub of_parts-requires-clause-known : goal.of_parts-requires-clause-known
of_parts-requires-clause-known c = known_of c.args.text.now c.in_ok-classes.classes.items c.in_ok-classes.ensures

pub of_parts-requires-clause-object_class : goal.of_parts-requires-clause-object_class
of_parts-requires-clause-object_class c =
    object_class_of (model c.in_ok-types.types.items c.in_ok-classes.classes.items) c.in_ok-object_class.object_class
    (sym (same_model required_in c.as_slice.ensures.value c.as_slice-2.ensures.value)
    ∙ c.in_ok-object_class.ensures.fine.1)
