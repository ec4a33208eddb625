use Rattle.std.proofs.Common.{◌++◌, flat_map, length, map, take}
use Rattle.std.specs.Io.KnownBytes.{Appends}
use Rattle.lab_script.specs.dir_lab.dir_search.directory_api.FoundView.{found_view}
use Rattle.dird_commands.specs.private.Replies.{entry_line}
use Rattle.dird_commands.proofs.replies.write_answer.Given as goal

abbrev pub invariant-loop-entry : goal.invariant-loop-entry
invariant-loop-entry g l =
    Appends (g.W.Write.contents l.initial.output) (g.W.Write.contents l.output)
    (flat_map (λ e. entry_line (found_view e).object_name) (take l.entry-index l.entries))
