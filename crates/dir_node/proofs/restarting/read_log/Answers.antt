-- What search doesn't prove of `read_log`: the clause `told`, the clause `version` and the clause `damaged`, step by
-- step.
use Rattle.std.proofs.Common.{◌≡◌, List, ℕ, Err, ap, ◌∙◌, subst}
use Rattle.log_journal.specs.Found.{HasAnotherVersion, IsFound}
use Rattle.log_journal.specs.Refused.{HasDamage}
use Rattle.log_journal.specs.journal.Frames.{recorded}
use Rattle.log_journal.specs.declared.error.NoteError.{NoteError}
use Rattle.log_journal.specs.declared.error.NoteError.TheVariants.{AnotherVersion, Damaged}
use Rattle.dir_node.specs.declared.error.NodeError.TheVariants.{Journal}
use Rattle.dir_node.proofs.restarting.read_log.Goals as goal

pub returns-in-Ok-read-clause-told : goal.returns-in-Ok-read-clause-told
returns-in-Ok-read-clause-told g c = subst (λ (l : List ℕ). IsFound c.in-Ok-read.found.0 (recorded l))
    c.sync.ensures.seen c.in-Ok-read.ensures.told

pub returns-in-Err-read-clause-version : goal.returns-in-Err-read-clause-version
returns-in-Err-read-clause-version g c = λ is.
    let same : c.refusal_at_opening.result ≡ Journal AnotherVersion = cc is in
    subst (λ (l : List ℕ). HasAnotherVersion (recorded l)) c.sync.ensures.seen (c.in-Err-read.ensures.version
    (ap (λ (x : NoteError). Err x) (c.refusal_at_opening.ensures.version same)))

pub returns-in-Err-read-clause-damaged : goal.returns-in-Err-read-clause-damaged
returns-in-Err-read-clause-damaged g c = λ is.
    let same : c.refusal_at_opening.result ≡ Journal Damaged = cc is in
    subst (λ (l : List ℕ). HasDamage (recorded l)) c.sync.ensures.seen (c.in-Err-read.ensures.damaged
    (ap (λ (x : NoteError). Err x) (c.refusal_at_opening.ensures.damaged same)))
