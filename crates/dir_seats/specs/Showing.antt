-- What a publisher shows, and what it is to show next.
use Rattle.std.specs.Prelude.{List, fold, drop, length}
use Rattle.vr_state.specs.Words.{LogEntry}
use Rattle.state_machine.specs.dir_store.ldap_op.Values.{OpValue}
use Rattle.state_machine.specs.Executing.{ExecutedValue}

-- what seats see, and the records that they are to see next
pub record Showing : Type 0 where
  pub published : ExecutedValue
  pub waiting : List (LogEntry OpValue)

-- the last of the versions that are to be shown, or else the one that is
abbrev pub latest : ExecutedValue → List ExecutedValue → ExecutedValue
latest shown nexts = fold (λ _ next. next) shown nexts

-- what is shown, and the records that the latest version has beyond it
abbrev pub showing : ExecutedValue → List ExecutedValue → Showing
showing shown nexts = record { published = shown; waiting = drop (length shown.records) (latest shown nexts).records }
