-- What a lab shows: replies to updates with their codes, answers of searches, states of replicas.
use Rattle.std.specs.Prelude.{ℕ, ◌-◌, List, length, Option, Some, None, slice_get}
use Rattle.std.specs.Option.{option_map_or}
use Rattle.vr_state.specs.State.{State}
use Rattle.vr_state.specs.declared.words.Status.{Status}
use Rattle.vr_world.specs.declared.words.ReplyBy.{ReplyBy}
use Rattle.dir_search.specs.directory_api.Answers.{ReplyModel}
use Rattle.state_machine.specs.dir_store.ldap_op.Values.{OpValue}
use Rattle.dir_search.specs.directory_api.Answers.{Answer}
use Rattle.dir_search.specs.directory_api.View.{answer_view}
use Rattle.dir_lab.specs.declared.events.LabReply.{LabReply}
use Rattle.dir_lab.specs.declared.events.LabReply.TheVariants as lab

-- one thing that is shown
pub data Shown : Type 0 where
  Replied : (by : ReplyBy) (code : ℕ) → Shown
  Unavailable : Shown
  NotYet : (at : ℕ) → Shown
  Answered : (at : ℕ) (answer : Answer) → Shown
  Standing : (replica view_number : ℕ) (status : Status) (op_number commit_number : ℕ) → Shown
  Down : (replica : ℕ) → Shown

-- what stands for it in memory
abbrev pub shown_view : LabReply → Shown
shown_view (lab.Replied by code) = Replied by code
shown_view lab.Unavailable = Unavailable
shown_view (lab.NotYet at) = NotYet at
shown_view (lab.Answered at answer) = Answered at (answer_view answer)
shown_view (lab.Standing i v s p k) = Standing i v s p k
shown_view (lab.Down i) = Down i

-- what is shown of a replica's state
abbrev pub standing : ℕ → Option (State OpValue) → Shown
standing i None = Down i
standing i (Some r) = Standing i r.view_number r.status (length r.log) r.commit_number

-- the code of the reply to the record of this number, 1 for the first; other (80), where there is none: no lab of 2f +
-- 1 replicas shows it
abbrev pub code_at : List ReplyModel → ℕ → ℕ
code_at replies op_number = option_map_or (λ reply. reply.code) (slice_get replies (op_number - 1)) 80
