-- What another replica has said, and which start of it remembers less than that: its files are older than what it said.
use Rattle.std.specs.Prelude.{◌≡◌, ℕ, ◌≤◌, ◌<◌, ◌⊎◌, max, Bool, true, false, cond, ◌&&◌, ◌||◌, ◌==◌, nat_lt, nat_le, List, [], ◌∷◌, Option, Some, None}
use Rattle.peer_link.specs.declared.claim.Claim.{Claim}
use Rattle.peer_link.specs.declared.past.Reach.{Reach}
use Rattle.peer_link.specs.declared.past.Past.{Past}
use Rattle.peer_link.specs.declared.past.Forgotten.{Forgotten}
use Rattle.peer_link.specs.declared.past.Forgotten.TheVariants as forgotten

-- One log goes further than another: its last normal view is later, or the same one, and it is longer.
abbrev pub is_further : Reach → Reach → Bool
is_further a b = nat_lt b.last_normal a.last_normal || (a.last_normal == b.last_normal && nat_lt b.length a.length)

-- how far the log of a start goes
abbrev pub reach_of : Claim → Reach
reach_of c = record { last_normal = c.last_normal; length = c.length }

-- How far it is known to go: as far as before, or further.
abbrev pub reached : Reach → Reach → Reach
reached old new = cond (is_further new old) new old

-- nothing was said
abbrev pub nothing_said : Past
nothing_said = record { start = 0; mark = 0; view = 0; reach = record { last_normal = 0; length = 0 } }

-- What a replica says: a start greets, or it says that it is in a view, and has a log that goes so far.
pub data Saying : Type 0 where
  Greets : (c : Claim) → Saying
  Says : (view : ℕ) (reach : Reach) → Saying

-- what was said, after a greeting that is no refused one
abbrev pub after_greeting : Past → Claim → Past
after_greeting p c = record {
  start = c.start;
  mark = c.mark;
  view = max p.view c.view;
  reach = cond c.remembers (reached p.reach (reach_of c)) p.reach;
}

-- what was said, after a message
abbrev pub after_saying : Past → ℕ → Reach → Past
after_saying p view reach = record p { view = max p.view view; reach = reached p.reach reach }

-- what was said, after one thing more
abbrev pub said_after : Past → Saying → Past
said_after p (Greets c) = after_greeting p c
said_after p (Says view reach) = after_saying p view reach

-- after all of these, the newest first
abbrev pub past_of : List Saying → Past
past_of [] = nothing_said
past_of (x ∷ xs) = said_after (past_of xs) x

-- The start that greeted last greets again.
abbrev pub is_same_start : Past → Claim → Bool
is_same_start p c = p.start == c.start && p.mark == c.mark

-- What a start doesn't remember of what was said: its number isn't after the last one's, its view is below one that was
-- named, or its log doesn't go as far as one that was named, where it goes on from its log; nothing, where the same
-- start greets again.
abbrev pub judged : Past → Claim → Option Forgotten
judged p c =
    cond (is_same_start p c) None
    (cond (nat_le c.start p.start) (Some (forgotten.Start p.start))
    (cond (nat_lt c.view p.view) (Some (forgotten.View p.view))
    (cond (c.remembers && is_further p.reach (reach_of c)) (Some (forgotten.Log p.reach)) None)))

-- A start comes after this: its number is greater, and it remembers as much.
abbrev pub GoesOnFrom : Claim → Saying → Type 0
GoesOnFrom c (Greets d) =
    (d.start < c.start) × (d.view ≤ c.view) × (c.remembers ≡ true → d.remembers ≡ true →
    is_further (reach_of d) (reach_of c) ≡ false)
GoesOnFrom c (Says view reach) = (view ≤ c.view) × (c.remembers ≡ true → is_further reach (reach_of c) ≡ false)

-- A start comes after all of these.
abbrev pub GoesForward : Claim → List Saying → Type 0
GoesForward c [] = 0 < c.start
GoesForward c (x ∷ xs) = GoesOnFrom c x × GoesForward c xs

-- A start that comes after all that its replica said isn't refused.
abbrev pub ForwardIsTaken : Type 0
ForwardIsTaken = (c : Claim) (xs : List Saying) → GoesForward c xs → judged (past_of xs) c ≡ None

-- This was said.
abbrev pub WasSaid : Forgotten → Saying → Type 0
WasSaid (forgotten.Start said) (Greets d) = d.start ≡ said
WasSaid (forgotten.View said) (Greets d) = d.view ≡ said
WasSaid (forgotten.View said) (Says view reach) = view ≡ said
WasSaid (forgotten.Log said) (Greets d) = (d.remembers ≡ true) × (reach_of d ≡ said)
WasSaid (forgotten.Log said) (Says view reach) = reach ≡ said
WasSaid f x = ⊥

-- One of these said it.
abbrev pub SomeSaid : Forgotten → List Saying → Type 0
SomeSaid f [] = ⊥
SomeSaid f (x ∷ xs) = WasSaid f x ⊎ SomeSaid f xs

-- The start remembers less than this.
abbrev pub Forgets : Claim → Forgotten → Type 0
Forgets c (forgotten.Start said) = c.start ≤ said
Forgets c (forgotten.View said) = c.view < said
Forgets c (forgotten.Log said) = (c.remembers ≡ true) × (is_further said (reach_of c) ≡ true)

-- A start is refused for what was said, and what it doesn't remember; one without a number is refused for that.
abbrev pub RefusalsHaveCause : Type 0
RefusalsHaveCause = (c : Claim) (xs : List Saying) (f : Forgotten) → 0 < c.start → judged (past_of xs) c ≡ Some f →
    SomeSaid f xs × Forgets c f
