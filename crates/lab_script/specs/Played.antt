-- Lab scripts: what a script shows. What a schedule shows is not defined here.
use Rattle.std.specs.Prelude.{◌≡◌, ℕ, List, map}
use Rattle.dir_lab.specs.dir_search.ldap_schema.Schema.{SchemaModel}
use Rattle.dir_lab.specs.dir_search.ldap_dn.Names.{RdnModel}
use Rattle.dir_lab.specs.declared.events.LabEvent.{LabEvent}
use Rattle.dir_lab.specs.Shown.{Shown}
use Rattle.dir_lab.specs.Schedule.{shown_by}
use Rattle.dir_lab.specs.Headline.{CommittedIsOne, RepliesAreOfCommitted, SearchesAreTold}
use Rattle.dir_lab.specs.vr_world.Law.{IsSize}
use Rattle.lab_script.specs.Events.{event_view}
use Rattle.lab_script.specs.Script.{IsSchedule}

-- What is shown is what the schedule that the lines name shows from the first world on, with as many replicas as the
-- first line names; and what each search, each reply and what is committed is promised holds of that schedule.
pub record IsPlayed (s : SchemaModel) (root : List RdnModel) (lines : List (List ℕ)) (shown : List Shown) : Type 0 where
  pub count : ℕ
  pub events : List LabEvent
  pub schedule : IsSchedule lines count (map event_view events)
  pub size : IsSize count
  pub all : shown ≡ shown_by s root count events
  pub searches : SearchesAreTold s root count events shown
  pub replies : RepliesAreOfCommitted s root count events shown
  pub committed : CommittedIsOne count events
