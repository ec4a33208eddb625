-- Fields that are of no record, and so of no note.
use Rattle.std.proofs.Common.{◌≡◌, ◌<◌, ◌^◌, arith}
use Rattle.ldap_op.specs.Values.{OpValue}
use Rattle.vr_state.specs.Words.{LogEntry}
use Rattle.vr_state.specs.Journaled as journaled
use Rattle.log_journal.specs.Fields.{Fields}
use Rattle.log_journal.specs.Notes.{Step, IsEntryIn}
use Rattle.log_journal.specs.private.Refused.{AreNoEntry, AreNoNote}
use Rattle.log_journal.proofs.OneTold.{kind_is, step_kind_is}

module _ (f : Fields) where
  pub no_record : f.kind ≡ 3 → AreNoEntry f → AreNoNote f
  no_record k h (Step (journaled.Record j e)) home is = h 3 j e home is
  no_record k h (Step x) home is = absurd (omega (arith, k, step_kind_is x f is))
  no_record k h x home is = absurd (omega (arith, k, kind_is x f is))

  pub no_stage : f.kind ≡ 4 → ((e : LogEntry OpValue) → e.client.home < 2 ^ 8 → IsEntryIn 4 0 e f → ⊥) → AreNoNote f
  no_stage k h (Step (journaled.Stage e)) home is = h e home is
  no_stage k h (Step x) home is = absurd (omega (arith, k, step_kind_is x f is))
  no_stage k h x home is = absurd (omega (arith, k, kind_is x f is))
