-- What search doesn't prove of `sync`: the clause `crash`, by lemmas of `Histories`.
use Rattle.std.proofs.Common.{◌≡◌, sym, subst}
use Rattle.journal.specs.Memory.{MayLeave, seen_after}
use Rattle.file_device.specs.History.{History}
use Rattle.file_device.proofs.Histories.{seen_is_left}
use Rattle.file_device.proofs.journal_calls.JournalFileDevice.sync.Goals as goal

pub returns-in-Ok-clause-crash : goal.returns-in-Ok-clause-crash
returns-in-Ok-clause-crash c = λ image now.
    let was = c.args.self.now.octets in
    let h = was.known.history in
    let same : image ≡ seen_after h.base h.events = subst (λ (k : History). MayLeave k.base k.events image)
    c.settle.ensures now in
    subst (MayLeave h.base h.events) (sym same) (seen_is_left h.base h.events was.writes_within)
