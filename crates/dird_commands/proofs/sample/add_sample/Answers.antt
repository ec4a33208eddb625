-- What search doesn't prove of `add_sample`: the clause `applied`, by lemmas of `Sampled`.
use Rattle.std.proofs.lemmas.Result.{on_ok_weaker}
use Rattle.dird_commands.proofs.Sampled.{six_adds}
use Rattle.dird_commands.proofs.sample.add_sample.Goals as goal

pub returns-clause-applied : goal.returns-clause-applied
returns-clause-applied c =
    on_ok_weaker c.add_last_items.result
    (λ last. six_adds c.args.store.now.directory c.add_upper.new.store.directory c.add_first_items.new.store.directory
    c.add_last_items.new.store.directory c.in_ok-add_upper.ensures.applied c.in_ok-add_first_items.ensures.applied
    last)
    c.add_last_items.ensures.applied
