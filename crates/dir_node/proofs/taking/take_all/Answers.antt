-- What search doesn't prove of `take_all`: the clause `taken`, by lemmas of `Handling`.
use Rattle.std.proofs.Common.{[]}
use Rattle.vr_state.specs.Views.{state}
use Rattle.dir_node.proofs.Handling.{steps_of}
use Rattle.dir_node.proofs.taking.take_all.Goals as goal

pub returns-in-Ok-clause-taken : goal.returns-in-Ok-clause-taken
returns-in-Ok-clause-taken g c =
    let r = c.args.replica.now in
    steps_of r.count r.index (state r) (state c.keep_events.new.replica) c.args.events.items c.in-Ok.outputs.items []
    c.in-Ok.ensures.taken.notes c.in-Ok.ensures.taken.taken
