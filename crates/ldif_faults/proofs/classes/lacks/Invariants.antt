use Rattle.std.proofs.Common.{◌≡◌, drop}
use Rattle.ldif_faults.specs.Classes.{lacks}
use Rattle.ldif_faults.proofs.classes.lacks.Given as goal

abbrev pub invariant-loop-type_id : goal.invariant-loop-type_id
invariant-loop-type_id l = lacks l.types (drop l.type_id-index l.required) ≡ lacks l.types l.required
