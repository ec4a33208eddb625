-- What a message was taken for: what contracts that aren't public say of it.
-- What public contracts say is in specs/Taken.
use Rattle.std.specs.Prelude.{List}
use Rattle.directory_api.specs.Talk.{Exchange}
use Rattle.session_handler.specs.Session.{Reaction, Asked}
use Rattle.session_handler.specs.Turns.{Outcome}
use Rattle.session_handler.specs.declared.pending.Pending.{Pending}
use Rattle.session_handler.specs.declared.state.State.{State}

-- what a request that waits for its answer comes to, along what is asked for it
abbrev pub OutcomeOf : {T : Type 0} → State → Pending → Asked → List (Exchange T) → Reaction → Type 0
OutcomeOf s p question = Outcome s p.id p.answering p.named question
