-- What replication promises, for every schedule. Safety alone: that anything is ever committed, or a recovery ever
-- ends, is said nowhere.
use Rattle.std.specs.Prelude.{◌≡◌, ◌≢◌, ℕ, ◌*◌, ◌+◌, ◌/◌, ◌<◌, ◌≤◌, ◌⊎◌, Bool, true, false, List, [], ◌∷◌, ◌++◌, take, length, Some}
use Rattle.vr_state.specs.Lists.{IsPrefix, In, Rising, IsNamedIn}
use Rattle.vr_state.specs.Outcome.{indices, count}
use Rattle.vr_state.specs.State.{State, is_recovering, resuming}
use Rattle.vr_state.specs.ViewChange.{own_change}
use Rattle.vr_state.specs.Words.{LogEntry}
use Rattle.vr_world.specs.Committed.{IsChosen, committed}
use Rattle.vr_world.specs.World.{World, ReplyBy, WorldEvent, happens, after}
use Rattle.vr_world.specs.declared.events.WorldEvent.TheVariants.{Request, Crash, Recover, Resume}

-- An odd number of replicas, three at least: 2f + 1.
pub record IsSize (n : ℕ) : Type 0 where
  pub odd : n ≡ 2 * (n / 2) + 1
  pub three : 3 ≤ n

-- Of two chosen lists one is a beginning of the other.
abbrev pub ChosenAgree : Type 0 → Type 0
ChosenAgree P = (n : ℕ) → IsSize n → (es : List (WorldEvent P)) (a b : List (LogEntry P)) →
    IsChosen n (after n es).messages a → IsChosen n (after n es).messages b → IsPrefix a b ⊎ IsPrefix b a

-- What is committed begins with each chosen list, and is chosen itself unless it is empty.
abbrev pub CommittedIsLongest : Type 0 → Type 0
CommittedIsLongest P = (n : ℕ) → IsSize n → (es : List (WorldEvent P)) →
    ((l : List (LogEntry P)) → IsChosen n (after n es).messages l → IsPrefix l (committed n (after n es).messages))
    × ((committed n (after n es).messages ≡ []) ⊎ IsChosen n (after n es).messages (committed n (after n es).messages))

-- What is committed stays so, and only grows.
abbrev pub CommittedGrows : Type 0 → Type 0
CommittedGrows P = (n : ℕ) → IsSize n → (es more : List (WorldEvent P)) →
    IsPrefix (committed n (after n es).messages) (committed n (after n (es ++ more)).messages)

-- The first k records of each replica, k its commit-number, are a beginning of what is committed.
abbrev pub ReplicasAgree : Type 0 → Type 0
ReplicasAgree P = (n : ℕ) → IsSize n → (es : List (WorldEvent P)) (i : ℕ) (r : State P) → (after n es).replicas i ≡
    Some r →
    IsPrefix (take r.commit_number r.log) (committed n (after n es).messages)

-- A replica's log has the records that its commit-number counts.
abbrev pub CommitsAreHeld : Type 0 → Type 0
CommitsAreHeld P = (n : ℕ) → IsSize n → (es : List (WorldEvent P)) (i : ℕ) (r : State P) → (after n es).replicas i ≡
    Some r → r.commit_number ≤ length r.log

-- Each client's request numbers rise along what is committed.
abbrev pub NumbersRise : Type 0 → Type 0
NumbersRise P = (n : ℕ) → IsSize n → (es : List (WorldEvent P)) → Rising (committed n (after n es).messages)

-- The record was asked for: one of these events is the request for it, at one of n replicas.
pub record WasAsked {P : Type 0} (n : ℕ) (es : List (WorldEvent P)) (e : LogEntry P) : Type 0 where
  pub replica : ℕ
  pub there : replica < n
  pub asked : In (Request replica e) es

-- Each committed record was asked for by then: its client, its number and its payload are those of a request.
abbrev pub CommittedWasAsked : Type 0 → Type 0
CommittedWasAsked P = (n : ℕ) → IsSize n → (es : List (WorldEvent P)) (e : LogEntry P) →
    In e (committed n (after n es).messages) → WasAsked n es e

-- Each reply names the committed record at its place.
abbrev pub RepliesAreCommitted : Type 0 → Type 0
RepliesAreCommitted P = (n : ℕ) → IsSize n → (es : List (WorldEvent P)) (t : ReplyBy) → In t (after n es).replies →
    IsNamedIn t.reply (committed n (after n es).messages)

-- The replica that gave a reply is up and has committed a record that the reply names.
pub record IsExecuted {P : Type 0} (w : World P) (t : ReplyBy) : Type 0 where
  pub replica : State P
  pub up : w.replicas t.replica ≡ Some replica
  pub named : IsNamedIn t.reply (take replica.commit_number replica.log)

-- The replies that came from one world to another, the newest first; each names what its replica has committed by then.
pub record GivenSince {P : Type 0} (old new : World P) : Type 0 where
  pub given : List ReplyBy
  pub replies : new.replies ≡ given ++ old.replies
  pub executed : (t : ReplyBy) → In t given → IsExecuted new t

-- At each event the replies that are given name what their replica has committed by then.
abbrev pub RepliesAreExecuted : Type 0 → Type 0
RepliesAreExecuted P = (n : ℕ) (w : World P) (e : WorldEvent P) → GivenSince w (happens n w e)

-- A step keeps the records that its replica has committed.
abbrev pub StepsKeep : Type 0 → Type 0
StepsKeep P = (n : ℕ) → IsSize n → (es : List (WorldEvent P)) (e : WorldEvent P) (i : ℕ) (r s : State P) →
    (after n es).replicas i ≡ Some r → (after n (es ++ e ∷ [])).replicas i ≡ Some s →
    IsPrefix (take r.commit_number r.log) (take s.commit_number s.log)

-- A replica takes part: it is up, and doesn't recover.
pub record TakesPart {P : Type 0} (w : World P) (j : ℕ) : Type 0 where
  pub replica : State P
  pub up : w.replicas j ≡ Some replica
  pub active : is_recovering replica.status ≡ false

-- Some replica that is up has all of this list at the beginning of its log.
pub record IsHeld {P : Type 0} (w : World P) (l : List (LogEntry P)) : Type 0 where
  pub index : ℕ
  pub replica : State P
  pub up : w.replicas index ≡ Some replica
  pub all : IsPrefix l replica.log

-- Of any majority of replicas that take part, one has all that is committed.
abbrev pub MajoritiesHold : Type 0 → Type 0
MajoritiesHold P = (n : ℕ) → IsSize n → (es : List (WorldEvent P)) (quorum : ℕ → Bool) →
    n / 2 < count quorum (indices n) →
    ((j : ℕ) → quorum j ≡ true → TakesPart (after n es) j) → IsHeld (after n es) (committed n (after n es).messages)

-- The event doesn't bring replica i back.
abbrev pub IsApart : {P : Type 0} → ℕ → WorldEvent P → Type 0
IsApart i (Recover j x) = j ≢ i
IsApart i (Resume j k) = j ≢ i
IsApart i _ = Unit {0}

-- None of these events brings replica i back.
abbrev pub AreApart : {P : Type 0} → ℕ → List (WorldEvent P) → Type 0
AreApart i [] = Unit {0}
AreApart i (e ∷ es) = IsApart i e × AreApart i es

-- A replica that takes part, crashes and goes on from its journal has its view, its last normal view and its log as
-- they were, whatever happened to the others meanwhile.
abbrev pub JournalsKeep : Type 0 → Type 0
JournalsKeep P = (n : ℕ) → IsSize n → (es more : List (WorldEvent P)) (i k : ℕ) (r : State P) →
    i < n → (after n es).replicas i ≡ Some r → is_recovering r.status ≡ false → AreApart i more →
    (after n (es ++ (Crash i ∷ (more ++ Resume i k ∷ [])))).replicas i ≡
    Some (resuming n r.view_number k (own_change r))
