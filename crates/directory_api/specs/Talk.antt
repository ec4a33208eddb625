-- What is asked of a directory and what it answers, in turn.
use Rattle.std.specs.Prelude.{ℕ, List, [], ◌∷◌, Result, Ok, Err}
use Rattle.ldap_msg.specs.Messages.{SearchRequestValue, CompareRequestValue}
use Rattle.ldap_op.specs.Values.{OpValue}
use Rattle.directory_api.specs.Answers.{ReplyModel, Answer}
use Rattle.ldap_op.specs.log_entry.declared.words.Client.{Client}
use Rattle.directory_api.specs.declared.outcomes.Found.{Found}
use Rattle.directory_api.specs.declared.outcomes.LookError.{LookError}
use Rattle.directory_api.specs.declared.outcomes.LookError.TheVariants.{NotYet, Gone, NoMemory}

-- what a read comes to: an answer at a number, or none, at which number it is not yet there
pub data Looked (A : Type 0) : Type 0 where
  found : ℕ → A → Looked A
  not_yet : ℕ → Looked A
  gone : Looked A
  no_memory : Looked A

-- what a look answers that finds nothing to look at
abbrev pub not_looked : {A : Type 0} → LookError → Looked A
not_looked (NotYet at) = not_yet at
not_looked Gone = gone
not_looked NoMemory = no_memory

-- what a look answers, as clauses see it
abbrev pub looked : {A B : Type 0} → (A → B) → Result (Found A) LookError → Looked B
looked view (Ok f) = found f.at (view f.answer)
looked view (Err e) = not_looked e

-- what a replica is to an update: the primary, a backup of the primary with this URI, neither known, or without state
pub data RoleValue : Type 0 where
  primary : RoleValue
  backup : List ℕ → RoleValue
  changing : RoleValue
  recovering : RoleValue

-- how an update ended: as the update of a number with its reply, as one that a later request made old, unknown, or
-- without memory
pub data EndedValue : Type 0 where
  done : ℕ → ReplyModel → EndedValue
  stale : EndedValue
  lost : EndedValue
  refused_memory : EndedValue

-- one question with its answer
pub data Exchange (T : Type 0) : Type 0 where
  asked_role : RoleValue → T → Exchange T
  learned : T → Exchange T
  searched : ℕ → SearchRequestValue → Looked Answer → Exchange T
  compared : ℕ → CompareRequestValue → Looked ReplyModel → Exchange T
  updated : Client → ℕ → OpValue → EndedValue → Exchange T

-- A directory goes along a talk: each exchange is one that it allows, one after the other.
pub data Along {D T : Type 0} (allows : D → Exchange T → D → Type 0) : D → List (Exchange T) → D → Type 0 where
  ends : {d : D} → Along allows d [] d
  goes : {d e f : D} {x : Exchange T} {xs : List (Exchange T)} → allows d x e → Along allows e xs f →
      Along allows d (x ∷ xs) f
