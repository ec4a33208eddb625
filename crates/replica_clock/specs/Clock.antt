-- When a replica moves by itself: rules of when a beat or a suspicion is due, as functions of what the replica does,
-- what it heard, and the moment. Moments and times are numbers of one unit. That these rules are never needed for
-- safety is why they may be this project's own.
use Rattle.std.specs.Prelude.{◌≡◌, ℕ, ◌+◌, ◌-◌, ◌*◌, ◌/◌, ◌%◌, ◌^◌, ◌<◌, ◌≤◌, max, min, Bool, true, false, cond, not, ◌&&◌, ◌||◌, ◌==◌, nat_le, List, [], ◌∷◌, ◌++◌, Option, Some, None}
use Rattle.vr_state.specs.State.{is_normal, is_changing, is_recovering}
use Rattle.vr_state.specs.declared.words.Status.{Status}
use Rattle.vr_state.specs.declared.words.Status.TheVariants.{Normal, ViewChange, Recovering}
use Rattle.replica_clock.specs.declared.sign.Sign.{Sign}
use Rattle.replica_clock.specs.declared.sign.Sign.TheVariants.{Leads, Lost, Part, Taken, Other}
pub use Rattle.replica_clock.specs.declared.clock.Due.{Due}
use Rattle.replica_clock.specs.declared.clock.Due.TheVariants as due

-- the longest time that is taken
abbrev pub longest : ℕ
longest = 2 ^ 40

-- the latest moment; a later one counts as this
abbrev pub latest : ℕ
latest = 2 ^ 62

-- what a clock knows: its replica's times, index and number of replicas, what the replica does, and when it heard what
pub record ClockValue : Type 0 where
  pub beat : ℕ
  pub suspect : ℕ
  pub index : ℕ
  pub count : ℕ
  pub status : Status
  pub view_number : ℕ
  pub silent_since : ℕ  -- since when nothing was heard of who is to lead the view
  pub lost_since : Option ℕ  -- since when the view's primary is known to have lost its state
  pub given_up : ℕ  -- by how many patiences more than one it waits for a view to begin, after views that it gave up
  pub is_long : Bool  -- whether parts of long messages came or were taken in the view that it changes to
  pub beat_at : ℕ  -- when the next beat is due
  pub ask_at : ℕ  -- when the clock wants to be asked

-- the primary of the view
abbrev pub primary : ClockValue → ℕ
primary c = c.view_number % c.count

-- it would lead the view itself
abbrev pub is_own : ClockValue → Bool
is_own c = primary c == c.index

-- the primary of the next view
abbrev pub next_primary : ClockValue → ℕ
next_primary c = (primary c + 1) % c.count

-- how many turns after the next primary it comes: 0 where it is the next primary itself
abbrev pub distance : ClockValue → ℕ
distance c =
    cond (nat_le (next_primary c) c.index) (c.index - next_primary c) (c.count - next_primary c + c.index)

-- The spread: each further replica waits an eighth of the time longer than the next primary, so that they don't begin
-- different views at once.
abbrev pub spread : ClockValue → ℕ
spread c = c.suspect / 8 * min (distance c) 7

-- how long it waits for the primary of a view that has begun
abbrev pub patience : ClockValue → ℕ
patience c = c.suspect + spread c

-- A view that doesn't begin is waited for so many patiences more.
abbrev pub times_longer : Status → ℕ → ℕ
times_longer Normal given_up = 1
times_longer ViewChange given_up = given_up + 1
times_longer Recovering given_up = 1

-- how long it waits in its view and status
abbrev pub limit : ClockValue → ℕ
limit c = patience c * times_longer c.status c.given_up

-- A backup suspects its primary, a replica that changes its view gives that view up, and one that recovers reminds the
-- others of the view that it has stored, in case theirs is below it. A primary suspects nobody.
abbrev pub suspects : Status → Bool → Bool
suspects Normal own = not own
suspects ViewChange own = true
suspects Recovering own = true

-- A primary, a replica that changes its view and one that recovers send again at each beat; a backup doesn't.
abbrev pub beats : Status → Bool → Bool
beats Normal own = own
beats ViewChange own = true
beats Recovering own = true

-- so much time has passed since a moment, where there is one
abbrev pub is_past : Option ℕ → ℕ → ℕ → Bool
is_past None time now = false
is_past (Some since) time now = nat_le time (now - since)

-- Its patience is over: it heard nothing for too long, or the primary has lost its state, and the spread has passed.
abbrev pub is_over : ClockValue → ℕ → Bool
is_over c now =
    suspects c.status (is_own c)
    && (nat_le (limit c) (now - c.silent_since) || is_past c.lost_since (spread c) now)

-- a beat is due
abbrev pub is_time : ClockValue → ℕ → Bool
is_time c now = beats c.status (is_own c) && nat_le c.beat_at now

-- what is due at a moment
abbrev pub due_at : ClockValue → ℕ → Due
due_at c now = cond (is_over c now) due.Suspect (cond (is_time c now) due.Beat due.Nothing)

-- Time by which the clock was asked too late isn't silence: its replica was busy or stopped, and could hear nobody.
abbrev pub rested : ClockValue → ℕ → ClockValue
rested c now = record c { silent_since = min now (c.silent_since + (now - c.ask_at)) }

-- the most patiences by which a view is waited for longer: more than any log takes
abbrev pub most_longer : ℕ
most_longer = 2 ^ 20 - 1

-- A view to whose end long messages were on their way is followed by one that is waited for twice as long.
abbrev pub twice_as_long : ℕ → ℕ
twice_as_long given_up = min (2 * given_up + 1) most_longer

-- Any other view that is given up is followed by one that is waited for one patience longer, up to eight patiences.
abbrev pub one_longer : ℕ → ℕ
one_longer given_up = max given_up (min (given_up + 1) 7)

-- one more view is given up, where one is
abbrev pub one_more : Status → ℕ → Bool → ℕ
one_more Normal given_up long = 0
one_more ViewChange given_up long = cond long (twice_as_long given_up) (one_longer given_up)
one_more Recovering given_up long = 0

-- what the clock knows once that is done which was due: a beat and a suspicion both send
abbrev pub done : Due → ClockValue → ℕ → ClockValue
done due.Nothing c now = c
done due.Beat c now = record c { beat_at = now + c.beat }
done due.Suspect c now =
    record c {
      silent_since = now;
      lost_since = None;
      given_up = one_more c.status c.given_up c.is_long;
      is_long = false;
      beat_at = now + c.beat;
    }

-- The clock was asked: it says what is due, and when to ask again, at most a beat later; before that nothing is due,
-- unless something is heard.
pub record IsAsked (old : ClockValue) (now : ℕ) (what : Due) (wait : ℕ) (new : ClockValue) : Type 0 where
  pub is_due : what ≡ due_at (rested old now) now
  pub known : new ≡ record (done what (rested old now) now) { ask_at = now + wait }
  pub some : 0 < wait
  pub soon : wait ≤ old.beat
  pub quiet : (t : ℕ) → now ≤ t → t < now + wait → due_at new t ≡ due.Nothing

-- two statuses are one
abbrev pub is_same : Status → Status → Bool
is_same Normal other = is_normal other
is_same ViewChange other = is_changing other
is_same Recovering other = is_recovering other

-- How much longer a view is waited for in a new status: one that others left while long messages were on their way
-- counts as given up.
abbrev pub still_given_up : Status → ℕ → Bool → ℕ
still_given_up Normal given_up long = 0
still_given_up ViewChange given_up long = cond long (twice_as_long given_up) given_up
still_given_up Recovering given_up long = 0

-- The replica is in this view with this status. Where that is new, silence and beats are counted from now on.
abbrev pub noted : ClockValue → ℕ → Status → ℕ → ClockValue
noted c view status now =
    cond (c.view_number == view && is_same c.status status) c
    (record c {
      view_number = view;
      status = status;
      silent_since = now;
      lost_since = None;
      given_up = still_given_up status c.given_up c.is_long;
      is_long = false;
      beat_at = now + c.beat;
    })

-- the first of the moments at which the primary was known to have lost its state
abbrev pub first_lost : Option ℕ → ℕ → ℕ
first_lost None now = now
first_lost (Some since) now = since

-- it waits for what this replica sends
abbrev pub awaits : Status → ClockValue → ℕ → Bool
awaits Normal c from = from == primary c
awaits ViewChange c from = from == primary c || is_own c
awaits Recovering c from = true

-- A part of a long message came: who is awaited is not silent. A replica that recovers awaits all others, and needs not
-- ask again yet.
abbrev pub part_heard : Status → ClockValue → ℕ → ClockValue
part_heard Normal c now = record c { silent_since = now }
part_heard ViewChange c now = record c { silent_since = now; is_long = true }
part_heard Recovering c now = record c { silent_since = now; beat_at = max c.beat_at (now + c.beat) }

-- Who takes the parts of a long message, and is to lead the next view, is not silent.
abbrev pub part_taken : Status → ClockValue → ℕ → ℕ → ClockValue
part_taken Normal c to now = c
part_taken ViewChange c to now = cond (to == primary c) (record c { silent_since = now; is_long = true }) c
part_taken Recovering c to now = c

-- A message came. A sign of life is one by which the primary of the own view leads it; that this primary recovers says
-- that it has lost its state, and then the clock wants to be asked when the spread has passed. Nothing else is heard.
abbrev pub heard : ClockValue → ℕ → Sign → ℕ → ClockValue
heard c from (Leads view) now =
    cond (from == primary c && view == c.view_number) (record c { silent_since = now; lost_since = None }) c
heard c from Lost now =
    cond (from == primary c)
    (record c {
      lost_since = Some (first_lost c.lost_since now);
      ask_at = min c.ask_at (now + spread c);
    }) c
heard c from Part now = cond (awaits c.status c from) (part_heard c.status c now) c
heard c from Taken now = part_taken c.status c from now
heard c from Other now = c

-- how long a commit may wait until the others are told: some commits are told together
abbrev pub haste : ClockValue → ℕ
haste c = c.beat / 256

-- More is committed than the others were told: the next beat comes within that time.
abbrev pub hurried : ClockValue → ℕ → ClockValue
hurried c now = record c { beat_at = min c.beat_at (now + haste c); ask_at = min c.ask_at (now + haste c) }

-- Then a beat is due that time later, where beats are made, and the clock is asked by then.
abbrev pub ACommitIsToldSoon : Type 0
ACommitIsToldSoon = (c : ClockValue) (now : ℕ) → beats c.status (is_own c) ≡ true
    → (is_time (hurried c now) (now + haste c) ≡ true) × ((hurried c now).ask_at ≤ now + haste c)

-- a clock that begins: nothing was heard yet, and it wants to be asked at once
abbrev pub begun : ℕ → ℕ → ℕ → ℕ → ℕ → Status → ℕ → ClockValue
begun beat suspect index count view status now = record {
  beat = beat;
  suspect = suspect;
  index = index % max count 1;
  count = max count 1;
  status = status;
  view_number = view;
  silent_since = now;
  lost_since = None;
  given_up = 0;
  is_long = false;
  beat_at = now + beat;
  ask_at = now;
}

-- parts of a long message came at these moments, one after the other
abbrev pub parts_heard : ClockValue → ℕ → List ℕ → ClockValue
parts_heard c from [] = c
parts_heard c from (now ∷ later) = parts_heard (heard c from Part now) from later

-- However many parts of a message have come, and when: for one patience after the last nobody is suspected who is
-- awaited and hasn't lost its state.
abbrev pub AMessageThatComesIsAwaited : Type 0
AMessageThatComesIsAwaited = (c : ClockValue) (from : ℕ) (before : List ℕ) (last now : ℕ) → awaits c.status c from ≡
    true → c.lost_since ≡ None
    → last ≤ now → now < last + limit c → is_over (parts_heard c from (before ++ last ∷ [])) now ≡ false

-- And for one patience after the last part that the next primary has taken of it, its sender doesn't suspect that
-- primary.
abbrev pub AMessageThatIsTakenIsAwaited : Type 0
AMessageThatIsTakenIsAwaited = (c : ClockValue) (last now : ℕ) → c.status ≡ ViewChange → c.lost_since ≡ None
    → last ≤ now → now < last + limit c → is_over (heard c (primary c) Taken last) now ≡ false

-- A view that is given up all the same is followed by one that is waited for twice as long, up to a million patiences.
abbrev pub ALongViewIsAwaitedLonger : Type 0
ALongViewIsAwaitedLonger = (c : ClockValue) (now : ℕ) → c.status ≡ ViewChange → c.is_long ≡ true →
    2 * (c.given_up + 1) ≤ 2 ^ 20
    → limit (done due.Suspect c now) ≡ 2 * limit c
