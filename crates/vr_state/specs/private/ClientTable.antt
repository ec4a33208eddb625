-- The client table, as a function of the log: what contracts that aren't public say of it.
-- What public contracts say is in specs/ClientTable.
use Rattle.std.specs.Prelude.{◌≡◌, ℕ, List, ◌++◌, length, refl}
use Rattle.std.specs.FinMap as map
use Rattle.log_entry.specs.declared.words.LogEntry.{LogEntry}
use Rattle.vr_state.specs.declared.words.Latest.{Latest}
use Rattle.std.specs.Coded.{Coded, code_by, coded×, coded_ℕ}
use Rattle.log_entry.specs.ClientOrder.{client_cmp}
use Rattle.vr_state.specs.ClientTable.{IsTableOf}

-- A kept table goes on with these records, which come after so many: of whatever log of that length it was the table,
-- it now is that of the log with the records.
abbrev pub GoesOnWithAll : {P : Type 0} → map.FinMap client_cmp Latest → map.FinMap client_cmp Latest →
    List (LogEntry P) → ℕ → Type 0
GoesOnWithAll {P} old new es before = (log : List (LogEntry P)) → IsTableOf old log → before ≡ length log →
    IsTableOf new (log ++ es)

-- A latest record as its two numbers.
abbrev pub coded_latest : Coded Latest
coded_latest =
    code_by (ℕ × ℕ) (coded× coded_ℕ coded_ℕ) (λ l. (l.op_number, l.request_number))
    (λ p. record { op_number = p.0; request_number = p.1 })
    (λ _. refl)
