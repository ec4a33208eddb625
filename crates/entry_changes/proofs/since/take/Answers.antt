-- What search doesn't prove of `take`: what it returns, by lemmas of `Reached`.
use Rattle.entry_changes.proofs.Reached.{since_take}
use Rattle.entry_changes.proofs.since.take.Goals as goal

pub returns : goal.returns
returns c = since_take c.args.octets.now c.args.held.now.entries c.remove.new.self.entries c.remove.ensures.entries
    c.remove.ensures.updates.1
