-- What a journal's notes stand for: whose it is, the last start, and what is kept of the replica.
use Rattle.std.specs.Prelude.{◌≡◌, ℕ, max, Bool, true, false, List, [], ◌∷◌}
use Rattle.ldap_op.specs.Values.{OpValue}
use Rattle.vr_state.specs.Journaled as journaled
use Rattle.log_journal.specs.Notes.{Note, Begin, Start, Step, Commit, Spells}

-- whose the journal is, how often the replica was started, and the replica as it would go on
pub record Told : Type 0 where
  pub cluster : ℕ
  pub index : ℕ
  pub count : ℕ
  pub restarts : ℕ
  pub kept : journaled.Kept OpValue

-- nothing is kept: a replica in its first view, with nothing
abbrev pub nothing_kept : Bool → ℕ → journaled.Kept OpValue
nothing_kept whole view = record { view = view; last = 0; log = []; k = 0; staged = []; whole = whole }

-- nothing is told
abbrev pub nothing_told : Told
nothing_told = record { cluster = 0; index = 0; count = 0; restarts = 0; kept = nothing_kept true 0 }

-- A start from what is kept changes the view alone; one that recovers keeps nothing.
abbrev pub started : Bool → ℕ → journaled.Kept OpValue → journaled.Kept OpValue
started true view h = record h { view = view; staged = [] }
started false view h = nothing_kept false view

-- after one note
abbrev pub told_by : Told → Note → Told
told_by t (Begin cluster index count) = record t { cluster = cluster; index = index; count = count }
told_by t (Start restarts view is_whole) = record t { restarts = restarts; kept = started is_whole view t.kept }
told_by t (Step x) = record t { kept = journaled.noted_by t.kept x }
told_by t (Commit k) = record t { kept = record t.kept { k = max t.kept.k k } }

-- Strings take what is told from t to u: each spells a note.
abbrev pub Tells : Told → List (List ℕ) → Told → Type 0
Tells t [] u = t ≡ u
Tells t (s ∷ ss) u = (x : Note) × Spells x s × Tells (told_by t x) ss u
