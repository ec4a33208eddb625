-- A session that waits for its turn, of whose client the poll has told. The token comes in, with the table before and
-- after.
use Rattle.std.specs.Prelude.{◌≡◌, ℕ, ◌%◌, List, Option, Some}
use Rattle.std.specs.Option.{option_map}
use Rattle.session_table.specs.Posting.{HasPost}
use Rattle.session_table.specs.Tabling.{Tabled, Notes, session_at}
use Rattle.session_table.specs.Tokens.{token_of}
use Rattle.session_table.specs.declared.pooled.Notice.{Notice}
use Rattle.session_table.specs.declared.table.NoteOutcome.{NoteOutcome}
use Rattle.session_table.specs.declared.table.NoteOutcome.TheVariants as outcome
use Rattle.session_table.specs.declared.updaters.Updater.{Updater}

-- the session at a place is told, and the token is its own
pub record IsToldOf (t : Tabled) (token : ℕ) (u : Tabled) : Type 0 where
  pub place : ℕ
  pub notice : Notice
  pub notes : Notes t place notice u
  pub own : token_of place notes.before.number ≡ token

-- the update of no thread is that of the session of this token
abbrev pub IsNowhere : List (Option Updater) → ℕ → Type 0
IsNowhere updaters token = (thread : ℕ) → HasPost updaters thread token → ⊥

-- the session at the place that the token tells is the token's own
abbrev pub OwnsPlace : Tabled → ℕ → Type 0
OwnsPlace t token =
    option_map (λ g. token_of (token % 4294967296) g.number) (session_at t (token % 4294967296)) ≡ Some token

-- the update in a thread is let go
abbrev pub Leaves : NoteOutcome → Type 0
Leaves (outcome.Leaves thread) = Unit {0}
Leaves outcome.Nothing = ⊥
Leaves (outcome.Gives less) = ⊥

-- a session is told
abbrev pub Gives : NoteOutcome → Type 0
Gives (outcome.Gives less) = Unit {0}
Gives outcome.Nothing = ⊥
Gives (outcome.Leaves thread) = ⊥
