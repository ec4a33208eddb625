-- No index choice is named here: they hold for each.
use Rattle.std.specs.Prelude.{◌≡◌, ℕ, ◌<◌, ◌≤◌, ◌-◌, ◌⊎◌, List, [], ◌∷◌, ◌++◌, length, take, true, false, Option, Some, None, slice_get}
use Rattle.vr_state.specs.Lists.{IsPrefix, In, IsNamedIn, Rising}
use Rattle.vr_state.specs.State.{State, is_recovering}
use Rattle.vr_state.specs.Words.{LogEntry}
use Rattle.vr_world.specs.World.{after}
use Rattle.vr_world.specs.declared.events.WorldEvent.TheVariants.{Request}
use Rattle.vr_world.specs.declared.words.ReplyBy.{ReplyBy}
use Rattle.vr_world.specs.Committed.{IsChosen, committed}
use Rattle.vr_world.specs.Law.{IsSize}
use Rattle.dir_search.specs.ldap_msg.Messages.{SearchRequestValue}
use Rattle.dir_search.specs.ldap_msg.View.{search_view}
use Rattle.dir_search.specs.ldap_msg.ldap_requests.declared.search.SearchRequest.{SearchRequest}
use Rattle.state_machine.specs.Executing.{ops_of}
use Rattle.state_machine.specs.dir_store.ldap_schema.Schema.{SchemaModel}
use Rattle.state_machine.specs.dir_store.ldap_dn.Names.{RdnModel}
use Rattle.state_machine.specs.dir_store.ldap_op.Values.{OpValue}
use Rattle.dir_search.specs.directory_api.Answers.{ReplyModel}
use Rattle.state_machine.specs.dir_store.Updates.{directory_of, replies_of}
use Rattle.dir_search.specs.Answer.{answer}
use Rattle.dir_search.specs.directory_api.Answers.{Answer}
use Rattle.dir_lab.specs.Exact.{IsExact}
use Rattle.dir_lab.specs.Shown.{Shown, Replied, Unavailable, NotYet, Answered}
use Rattle.dir_lab.specs.Schedule.{happenings, shown_by}
use Rattle.dir_lab.specs.declared.events.LabEvent.{LabEvent}
use Rattle.dir_lab.specs.declared.events.LabEvent.TheVariants.{Happens, Search}

-- what is committed in the world after a schedule
abbrev pub committed_by : ℕ → List LabEvent → List (LogEntry OpValue)
committed_by n es = committed n (after n (happenings es)).messages

-- a replica that is up and not recovering
pub record Answers (o : Option (State OpValue)) : Type 0 where
  pub replica : State OpValue
  pub up : o ≡ Some replica
  pub status : is_recovering replica.status ≡ false

-- a replica that is down or recovering
abbrev pub IsAway : Option (State OpValue) → Type 0
IsAway None = Unit {0}
IsAway (Some r) = is_recovering r.status ≡ true

-- The answer of a search over one beginning of what is committed, of this length; and where its code is success:
-- exactly the entries in scope whose filter value is True, each once, in order of number, with just the selected
-- attributes.
pub record IsAnswerAt (s : SchemaModel) (root : List RdnModel) (committed : List (LogEntry OpValue)) (at : ℕ)
    (q : SearchRequestValue) (a : Answer) : Type 0 where
  pub beginning : List (LogEntry OpValue)
  pub begins : IsPrefix beginning committed
  pub counts : length beginning ≡ at
  pub answers : a ≡ answer (directory_of s root (ops_of beginning)) q
  pub exact : IsExact (directory_of s root (ops_of beginning)) q a

-- What is shown for a search at a replica, in the state that it has then: unavailable, where it is down or recovering;
-- else, at its commit-number: not yet, where that is below the number that was named, and else the answer over one
-- beginning of what is committed, of that length.
pub record IsTold (s : SchemaModel) (root : List RdnModel) (committed : List (LogEntry OpValue))
    (o : Option (State OpValue)) (named : ℕ) (q : SearchRequestValue)
    (shown : Shown) : Type 0 where
  pub unavailable : IsAway o → shown ≡ Unavailable
  pub not_yet : (r : Answers o) → r.replica.commit_number < named → shown ≡ NotYet r.replica.commit_number
  pub answered : (r : Answers o) → named ≤ r.replica.commit_number
      → (a : Answer) × (shown ≡ Answered r.replica.commit_number a) × IsAnswerAt s root committed
      r.replica.commit_number q a

-- one thing is shown behind these
pub record IsShownBehind (front all : List Shown) (Is : Shown → Type 0) : Type 0 where
  pub one : Shown
  pub rest : List Shown
  pub split : all ≡ front ++ one ∷ rest
  pub is : Is one

-- For 2f + 1 replicas, each split of a schedule into what is before a search, the search and what is after: what is
-- shown for it is told of the state of its replica then, over what is committed after all events.
abbrev pub SearchesAreTold : SchemaModel → List RdnModel → ℕ → List LabEvent → List Shown → Type 0
SearchesAreTold s root n es shown = IsSize n → (before behind : List LabEvent) (i named : ℕ) (q : SearchRequest) →
    es ≡ before ++ Search i named q ∷ behind → i < n
    → IsShownBehind (shown_by s root n before) shown (IsTold s root (committed_by n es)
    ((after n (happenings before)).replicas i) named (search_view q))

-- a reply's code is that of the reply to the record at its place
pub record IsReplyOf (s : SchemaModel) (root : List RdnModel) (committed : List (LogEntry OpValue)) (t : ReplyBy)
    (shown : ℕ) : Type 0 where
  pub named : IsNamedIn t.reply committed
  pub reply : ReplyModel
  pub at : slice_get (replies_of s root (ops_of committed)) (t.reply.op_number - 1) ≡ Some reply
  pub code : shown ≡ reply.code

-- For 2f + 1 replicas each reply that is shown has the client and the number of the record at its place among what is
-- committed after all events, and the code of the reply to it.
abbrev pub RepliesAreOfCommitted : SchemaModel → List RdnModel → ℕ → List LabEvent → List Shown → Type 0
RepliesAreOfCommitted s root n es shown = IsSize n → (t : ReplyBy) (code : ℕ) → In (Replied t code) shown →
    IsReplyOf s root (committed_by n es) t code

-- The schedule has this request, at one of n replicas: its client, its number and its update.
pub record IsRequested (n : ℕ) (es : List LabEvent) (e : LogEntry OpValue) : Type 0 where
  pub replica : ℕ
  pub there : replica < n
  pub asked : In (Happens (Request replica e)) es

-- What is committed after a schedule is one list: it begins with each list that is chosen in any view, of which one
-- begins with the other; it only grows; it begins with what each replica has committed, which its log has; each
-- client's request numbers rise along it; and each record of it is a request of the schedule.
pub record CommittedIsOne (n : ℕ) (es : List LabEvent) : Type 0 where
  pub agree : (a b : List (LogEntry OpValue)) → IsChosen n (after n (happenings es)).messages a →
      IsChosen n (after n (happenings es)).messages b → IsPrefix a b ⊎ IsPrefix b a
  pub longest : (a : List (LogEntry OpValue)) → IsChosen n (after n (happenings es)).messages a →
      IsPrefix a (committed_by n es)
  pub chosen : (committed_by n es ≡ []) ⊎ IsChosen n (after n (happenings es)).messages (committed_by n es)
  pub grows : (more : List LabEvent) → IsPrefix (committed_by n es) (committed_by n (es ++ more))
  pub replicas : (i : ℕ) (r : State OpValue) → (after n (happenings es)).replicas i ≡ Some r →
      IsPrefix (take r.commit_number r.log) (committed_by n es)
  pub held : (i : ℕ) (r : State OpValue) → (after n (happenings es)).replicas i ≡ Some r →
      r.commit_number ≤ length r.log
  pub rising : Rising (committed_by n es)
  pub asked : (e : LogEntry OpValue) → In e (committed_by n es) → IsRequested n es e
