use Rattle.std.proofs.Common.{◌≡◌, None, drop}
use Rattle.std.specs.List.{filter, last_or}
use Rattle.std.specs.Option.{option_map}
use Rattle.ldif_faults.specs.Classes.{is_unknown_class}
use Rattle.ldif_faults.proofs.classes.unknown_class.Given as goal

abbrev pub invariant-loop-line : goal.invariant-loop-line
invariant-loop-line l = last_or (option_map (λ x. x.now) l.last) (filter (is_unknown_class l.schema)
    (drop l.line-index l.lines)) ≡ last_or None (filter (is_unknown_class l.schema) l.lines)
