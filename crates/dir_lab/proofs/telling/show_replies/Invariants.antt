use Rattle.std.proofs.Common.{◌≡◌, ◌++◌, map, take}
use Rattle.std.specs.Arc.{arc_value}
use Rattle.dir_lab.specs.private.Executions.{records_by}
use Rattle.dir_lab.specs.Schedule.{told}
use Rattle.dir_lab.specs.Shown.{shown_view}
use Rattle.dir_lab.proofs.telling.show_replies.Given as goal

-- so far those of a beginning are shown
abbrev pub invariant-loop-by : goal.invariant-loop-by
invariant-loop-by l =
    map shown_view l.shown.items ≡ map shown_view l.initial.shown.items ++ map (told (arc_value l.lab.schema)
    l.lab.suffix (records_by l.kept)) (take l.by-index l.replies)
