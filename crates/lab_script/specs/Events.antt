-- Lab scripts: events without where they lie in memory.
use Rattle.std.specs.Prelude.{ℕ}
use Rattle.dir_lab.specs.ldap_op.Values.{OpValue}
use Rattle.dir_lab.specs.dir_search.ldap_msg.Messages.{SearchRequestValue}
use Rattle.dir_lab.specs.dir_search.ldap_msg.View.{search_view}
use Rattle.dir_lab.specs.vr_world.declared.events.WorldEvent.{WorldEvent}
use Rattle.dir_lab.specs.declared.events.LabEvent.{LabEvent}
use Rattle.dir_lab.specs.declared.events.LabEvent.TheVariants as event

-- one event of a schedule, or a question
pub data EventValue : Type 0 where
  happens : WorldEvent OpValue → EventValue
  search : (replica named : ℕ) (request : SearchRequestValue) → EventValue
  state : (replica : ℕ) → EventValue

-- what stands for it in memory
abbrev pub event_view : LabEvent → EventValue
event_view (event.Happens e) = happens e
event_view (event.Search i named q) = search i named (search_view q)
event_view (event.State i) = state i
