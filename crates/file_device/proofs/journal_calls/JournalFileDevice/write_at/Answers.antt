use Rattle.std.proofs.Common.{◌≡◌, sym, ap, ◌∙◌, subst}
use Rattle.journal.specs.Device.{Mixed}
use Rattle.journal.proofs.Mixing.{lost_mixed}
use Rattle.file_device.specs.History.{octets_of}
use Rattle.file_device.proofs.journal_calls.JournalFileDevice.write_at.Goals as goal

-- what was known of the octets stays
pub returns-then-is_err-clause-failed : goal.returns-then-is_err-clause-failed
returns-then-is_err-clause-failed c =
    let h = c.args.self.now.octets.known.history in
    let same : octets_of c.fail.new.self.octets.known.history ≡ octets_of h = ap (λ o. octets_of o.known.history)
    c.fail.ensures.octets ∙ (ap octets_of c.cut_write.ensures ∙ ap (λ o. octets_of o.known.history)
    c.put.ensures.octets) in
    subst (Mixed c.args.at c.args.octets.now (octets_of h)) (sym same) (lost_mixed c.args.at c.args.octets.now
    (octets_of h) c.requires)
