-- What search doesn't prove of `sync`: the clause `crash`, by lemmas of `Histories`.
use Rattle.std.proofs.Common.{◌≡◌, sym, subst, ◌∙◌}
use Rattle.view_store.specs.Memory.{MayLeave, seen_after}
use Rattle.file_device.specs.History.{History, view_events}
use Rattle.file_device.proofs.Histories.{view_is_left}
use Rattle.file_device.proofs.device.FileDeviceDevice.sync.Goals as goal

pub returns-in-Ok-clause-crash : goal.returns-in-Ok-clause-crash
returns-in-Ok-clause-crash c = λ image now.
    let was = c.args.self.now in
    let h = was.known.history in
    let same : image ≡ seen_after h.base (view_events h) = subst (λ (k : History). MayLeave k.base (view_events k)
    image) c.settle.ensures now in
    subst (MayLeave h.base (view_events h)) (sym same) (view_is_left h.base (view_events h) was.writes_within)
