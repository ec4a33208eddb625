-- What search doesn't prove of `write_answer`: what it returns, by lemmas of `Replying`.
use Rattle.lab_script.specs.dir_lab.dir_search.directory_api.FoundView.{found_view}
use Rattle.dird_commands.specs.private.Replies.{entry_line}
use Rattle.dird_commands.proofs.Replying.{answer_done}
use Rattle.dird_commands.proofs.replies.write_answer.Goals as goal

pub returns : goal.returns
returns g c =
    answer_done c.args.at c.number.result c.args.answer.now.code found_view (λ e. entry_line e.object_name)
    c.as_slice-entries.result.now c.args.answer.now.entries.items c.loop-entry.entry-index
    (g.W.Write.contents c.args.output.now) (g.W.Write.contents c.write_answered.new.output)
    (g.W.Write.contents c.loop-entry.output)
    c.number.ensures c.as_slice-entries.ensures.value c.loop-entry-test.false c.in_ok-write_answered.ensures
    c.loop-entry.invariant
