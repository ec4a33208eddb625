-- What search doesn't prove of `push`: the clause `ok` and the clause `too_long`, step by step.
use Rattle.std.proofs.Common.{◌≡◌, ℕ, List, [], ◌∷◌, ◌++◌, OnOk, IsErrOf, subst}
use Rattle.journal.specs.Frames.{recorded}
use Rattle.log_journal.specs.Framed.{AreTooLong}
use Rattle.log_journal.specs.declared.error.NoteError.TheVariants.{Full}
use Rattle.log_journal.proofs.batch.Batch.push.Goals as goal

pub returns-clause-ok : goal.returns-clause-ok
returns-clause-ok c = subst (λ (l : List (List ℕ)). OnOk c.push_frame.result (recorded c.push_frame.new.octets.items ≡
    l ++ c.args.string.now ∷ [])) c.self.view_is c.push_frame.ensures.ok

pub returns-clause-too_long : goal.returns-clause-too_long
returns-clause-too_long c = subst (λ (l : List (List ℕ)). AreTooLong (l ++ c.args.string.now ∷ []) →
    IsErrOf c.push_frame.result Full) c.self.view_is c.push_frame.ensures.too_long
