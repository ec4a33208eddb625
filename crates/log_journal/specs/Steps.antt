-- What a step notes, from what was known of the replica before it. The same notes are defined in vr_state, of the
-- replica before and after.
use Rattle.std.specs.Prelude.{ℕ, Bool, not, cond, ◌&&◌, ◌==◌, nat_lt, List, [], ◌∷◌, ◌++◌, length, drop, map}
use Rattle.ldap_op.specs.Values.{OpValue}
use Rattle.vr_state.specs.State.{State, is_normal}
use Rattle.vr_state.specs.declared.event.Event.{Event}
use Rattle.vr_state.specs.StepLaw.{brings_tail}
use Rattle.vr_state.specs.Journaled.{Note, Record, Stage, Enter, Adopt}
use Rattle.log_journal.specs.declared.steps.Before.{Before}

-- what is known before a step
abbrev pub before_of : State OpValue → Event OpValue → Before
before_of r e = record {
  is_normal = is_normal r.status;
  view_number = r.view_number;
  length = length r.log;
  brings_tail = brings_tail e;
}

-- records were appended, since nothing else can have happened to the log
abbrev pub only_grew : Before → State OpValue → Bool
only_grew b s = b.is_normal && (b.view_number == s.view_number && not b.brings_tail)

-- the notes of the records behind the first of a log
abbrev pub grown : ℕ → State OpValue → List (Note OpValue)
grown before s = map (λ x. Record s.commit_number x) (drop before s.log)

-- the notes of a log that was adopted, of which the first base records stay
abbrev pub adopted : ℕ → State OpValue → List (Note OpValue)
adopted base s = map (λ x. Stage x) (drop base s.log) ++ Adopt s.view_number s.last_normal_view base
    s.commit_number ∷ []

-- the note of a view, where it grew
abbrev pub entered : ℕ → ℕ → List (Note OpValue)
entered before view = cond (nat_lt before view) (Enter view ∷ []) []

-- what is noted of a step to s, whose logs have their first base records alike
abbrev pub notes_since : Before → ℕ → State OpValue → List (Note OpValue)
notes_since b base s = cond (is_normal s.status) (cond (only_grew b s) (grown b.length s) (adopted base s))
    (entered b.view_number s.view_number)
