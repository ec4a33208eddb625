-- What search doesn't prove of `begin_log`: the clause `told`, by lemmas of `Starts`.
use Rattle.std.proofs.Common.{List, ℕ, sym, ap, ◌∙◌, subst}
use Rattle.log_journal.specs.Kept.{IsMemory}
use Rattle.log_journal.specs.journal.Frames.{recorded}
use Rattle.vr_state.specs.State.{first}
use Rattle.dir_node.specs.Logged.{head_of}
use Rattle.dir_node.specs.Restarting.{first_notes}
use Rattle.dir_node.proofs.Starts.{first_told, put_first}
use Rattle.dir_node.proofs.restarting.begin_log.Goals as goal

pub returns-in-Ok-clause-told : goal.returns-in-Ok-clause-told
returns-in-Ok-clause-told g c =
    let o = c.args.owner in
    let old = recorded (g.J.Device.seen c.clear_log.new.journal.device) in
    subst (λ (l : List (List ℕ)). IsMemory (head_of o.cluster o.index o.count 1) (first o.count) l)
    (sym c.in-Ok.ensures.strings)
    (first_told o old c.in_ok-batch.batch (c.in_ok-clear_log.ensures.strings ∙ ap recorded c.read_first.ensures.seen
    ∙ c.in_ok-reader.ensures.empty) (put_first (first_notes o) c.in_ok-batch.batch c.in_ok-batch.ensures.notes))
