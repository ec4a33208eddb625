use Rattle.std.proofs.Common.{◌≡◌, drop}
use Rattle.std.specs.List.{list_any}
use Rattle.dir_entry.specs.Entry.{attributes_of}
use Rattle.entry_updates.specs.Classes.{class_values, is_object_class}
use Rattle.entry_updates.proofs.obeying.object_class.Given as goal

abbrev pub invariant-loop-attribute : goal.invariant-loop-attribute
invariant-loop-attribute l =
    record {
      values : class_values l.schema (attributes_of (drop l.attribute-index l.attributes)) ≡ class_values l.schema
          (attributes_of l.attributes);
      there : list_any (λ a. is_object_class l.schema a.kind) (attributes_of (drop l.attribute-index l.attributes)) ≡
          list_any (λ a. is_object_class l.schema a.kind) (attributes_of l.attributes);
    }
