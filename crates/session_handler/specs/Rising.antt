-- What a session has seen never gets lost.
use Rattle.std.specs.Prelude.{◌≡◌, ℕ, ◌≤◌, max, List, [], ◌∷◌}
use Rattle.request_checks.specs.ldap_msg.Messages.{MessageValue}
use Rattle.directory_api.specs.Talk.{Looked, found, not_yet, gone, no_memory, EndedValue, done, stale, lost, refused_memory, Exchange, asked_role, learned, searched, compared, updated}
use Rattle.session_handler.specs.Session.{ConfigValue, number_seen}
use Rattle.session_handler.specs.Turns.{Session}
use Rattle.session_handler.specs.declared.answered.Next.{Next}
use Rattle.session_handler.specs.declared.state.State.{State}

-- a read that is answered is answered at this number or a later one
abbrev pub IsFrom : {A : Type 0} → ℕ → Looked A → Type 0
IsFrom number (found at a) = number ≤ at
IsFrom number (not_yet at) = Unit {0}
IsFrom number gone = Unit {0}
IsFrom number no_memory = Unit {0}

-- a read is answered at the number that it names or a later one
abbrev pub IsMet : {T : Type 0} → Exchange T → Type 0
IsMet (asked_role role told) = Unit {0}
IsMet (learned told) = Unit {0}
IsMet (searched number q look) = IsFrom number look
IsMet (compared number q look) = IsFrom number look
IsMet (updated client number u ended) = Unit {0}

-- so is each read of a talk
abbrev pub AreMet : {T : Type 0} → List (Exchange T) → Type 0
AreMet [] = Unit {0}
AreMet (x ∷ xs) = IsMet x × AreMet xs

-- the number that an update was made or refused as; 0 where it has none
abbrev pub number_made : EndedValue → ℕ
number_made (done number reply) = number
number_made stale = 0
number_made lost = 0
number_made refused_memory = 0

-- the greatest number seen, once this was asked and answered too
abbrev pub seen_with : {T : Type 0} → ℕ → Exchange T → ℕ
seen_with seen (asked_role role told) = seen
seen_with seen (learned told) = seen
seen_with seen (searched number q look) = max seen (number_seen look)
seen_with seen (compared number q look) = max seen (number_seen look)
seen_with seen (updated client number u ended) = max seen (number_made ended)

-- the greatest number seen in a talk, where this was seen before it
abbrev pub seen_in : {T : Type 0} → ℕ → List (Exchange T) → ℕ
seen_in seen [] = seen
seen_in seen (x ∷ xs) = seen_in (seen_with seen x) xs

-- a read is not answered before this number
abbrev pub GoesFrom : {T : Type 0} → ℕ → Exchange T → Type 0
GoesFrom seen (asked_role role told) = Unit {0}
GoesFrom seen (learned told) = Unit {0}
GoesFrom seen (searched number q look) = IsFrom seen look
GoesFrom seen (compared number q look) = IsFrom seen look
GoesFrom seen (updated client number u ended) = Unit {0}

-- no read of a talk is answered before what was seen in the talk by then
abbrev pub Rises : {T : Type 0} → ℕ → List (Exchange T) → Type 0
Rises seen [] = Unit {0}
Rises seen (x ∷ xs) = GoesFrom seen x × Rises (seen_with seen x) xs

-- A session keeps the greatest number that it has seen, of its updates and of its reads. Where each read is answered at
-- the number that it names or a later one, no read is answered before an earlier read or update of the session,
-- whichever directories answer them.
abbrev pub ReadsRise : Type 0 → Type 0
ReadsRise T = (c : ConfigValue) (s t : State) (ms : List MessageValue) (xs : List (Exchange T))
    (rs : List MessageValue) (next : Next) →
    Session c s ms xs t rs next → (t.floor ≡ seen_in s.floor xs) × (AreMet xs → Rises s.floor xs)
