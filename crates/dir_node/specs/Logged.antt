-- What the journal of a node tells, now and after a crash. What strings tell is defined in log_journal.
use Rattle.std.specs.Prelude.{◌≡◌, ◌≢◌, ◌⊎◌, ℕ, true, Option, Some, None, List, []}
use Rattle.state_machine.specs.dir_store.ldap_op.Values.{OpValue}
use Rattle.log_journal.specs.Kept.{IsMemory, IsMemoryOfTaken}
use Rattle.log_journal.specs.Notes.{Note, SpellAll}
use Rattle.log_journal.specs.Told.{Told, nothing_kept}
use Rattle.log_journal.specs.journal.Device.{HasRisen, LeavesOnly}
use Rattle.log_journal.specs.journal.Frames.{recorded}
use Rattle.log_journal.specs.journal.Journal.{IsGrown}
use Rattle.log_journal.specs.journal.declared.journal.Journal.{Journal}
use Rattle.vr_state.specs.State.{State}
use Rattle.vr_state.specs.declared.event.Event.{Event}

-- what a journal tells beside the replica: whose it is, and which start was the last
abbrev pub head_of : (cluster index count restarts : ℕ) → Told
head_of cluster index count restarts =
    record { cluster = cluster; index = index; count = count; restarts = restarts; kept = nothing_kept true 0 }

-- Where there is a journal, every crash leaves strings that tell this state below this head.
abbrev pub LeavesTold : {J : Type 0} → (J → List ℕ → Type 0) → Option (Journal J) → Told → State OpValue → Type 0
LeavesTold may_leave None t r = Unit {0}
LeavesTold may_leave (Some j) t r = (image : List ℕ) → may_leave j.device image → IsMemory t r (recorded image)

-- the device of a journal, where there is one
abbrev pub device_in : {J : Type 0} → Option (Journal J) → Option J
device_in None = None
device_in (Some j) = Some j.device

-- A device, where there is one, is the same one later, and a crash at any moment between leaves an image that has P.
abbrev pub LeavesOnlyIn : {J : Type 0} → (J → ℕ) → (J → ℕ → List ℕ → Type 0) → (old new : Option J) →
    (List ℕ → Type 0) → Type 0
LeavesOnlyIn moment left_since None None P = Unit {0}
LeavesOnlyIn moment left_since (Some a) (Some b) P = LeavesOnly moment left_since a b P
LeavesOnlyIn moment left_since _ _ P = ⊥

-- A crash at any moment of a call leaves a journal that tells, below this head, the replica after some first of the
-- events that were taken.
abbrev pub TellsSome : Told → (n i : ℕ) → State OpValue → List (Event OpValue) → List ℕ → Type 0
TellsSome t n i r es image = IsMemoryOfTaken t n i r es (recorded image)

-- There is a device, and its count of failures rose.
abbrev pub HasRisenIn : {J : Type 0} → (J → ℕ) → (old new : Option J) → Type 0
HasRisenIn count (Some a) (Some b) = HasRisen (count a) (count b)
HasRisenIn count _ _ = ⊥

-- An image is read as these strings, and then some first of those that spell these notes.
abbrev pub IsBegun : List (List ℕ) → List Note → List ℕ → Type 0
IsBegun old notes image = (strings : List (List ℕ)) × SpellAll notes strings × IsGrown old strings image

-- A start that notes nothing leaves what the device might have left before, or an image that is read as before.
abbrev pub ReadsAsBefore : {J : Type 0} → (J → List ℕ) → (J → List ℕ → Type 0) → J → List ℕ → Type 0
ReadsAsBefore seen may_leave j image = may_leave j image ⊎ (recorded image ≡ recorded (seen j))

-- A first start leaves an image that is read as before, or one with some first of what it notes.
abbrev pub FirstLeaves : {J : Type 0} → (J → List ℕ) → (J → List ℕ → Type 0) → Option J → List Note → List ℕ → Type 0
FirstLeaves seen may_leave None notes image = ⊥
FirstLeaves seen may_leave (Some j) notes image = ReadsAsBefore seen may_leave j image ⊎ IsBegun (recorded (seen j))
    notes image

-- A start that is refused early leaves an image that is read as before.
abbrev pub RefusedLeaves : {J : Type 0} → (J → List ℕ) → (J → List ℕ → Type 0) → Option J → List ℕ → Type 0
RefusedLeaves seen may_leave None image = ⊥
RefusedLeaves seen may_leave (Some j) image = ReadsAsBefore seen may_leave j image

-- A journal's device, where there is one, gives what it gave before: nothing was written.
abbrev pub IsUnwritten : {J : Type 0} → (J → List ℕ) → Option J → Option J → Type 0
IsUnwritten seen None None = Unit {0}
IsUnwritten seen (Some a) (Some b) = seen b ≡ seen a
IsUnwritten seen _ _ = ⊥

-- There is a journal, and it tells something.
abbrev pub IsNotEmpty : {J : Type 0} → (J → List ℕ) → Option J → Type 0
IsNotEmpty seen None = ⊥
IsNotEmpty seen (Some j) = recorded (seen j) ≢ []
