use Rattle.std.proofs.Common.{flat_map, map, take}
use Rattle.std.specs.Io.KnownBytes.{Appends}
use Rattle.lab_script.specs.dir_lab.Shown.{shown_view}
use Rattle.dird_commands.specs.private.Replies.{text_of}
use Rattle.dird_commands.proofs.replies.write_replies.Given as goal

abbrev pub invariant-loop-reply : goal.invariant-loop-reply
invariant-loop-reply g l =
    Appends (g.W.Write.contents l.initial.output) (g.W.Write.contents l.output)
    (flat_map text_of (map shown_view (take l.reply-index l.replies)))
