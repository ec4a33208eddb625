-- What search doesn't prove of `has_bad_escape`: `loop-octet-preserved`, by lemmas of `Escaping`.
use Rattle.std.proofs.Common.{◌+◌, ap, sym, ◌∙◌, drop}
use Rattle.text_faults.specs.private.Names.{scan_of}
use Rattle.text_faults.proofs.Escaping.{fails_by, fails_drop}
use Rattle.text_faults.proofs.names.has_bad_escape.Goals as goal

pub loop-octet-preserved : goal.loop-octet-preserved
loop-octet-preserved c =
    ap (λ o. fails_by o (drop (c.loop-octet.octet-index + 1) c.args.text.now)) c.in-Some.ensures
    ∙ sym (fails_drop (scan_of c.loop-octet.escape) c.args.text.now c.loop-octet.octet-index c.loop-octet-test.true)
    ∙ c.loop-octet.invariant
