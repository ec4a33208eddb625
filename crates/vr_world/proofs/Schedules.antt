-- Worked schedules: what a lab over n replicas prints, by computing. Nothing else is proved here.
use Rattle.std.proofs.Common.{◌≡◌, ℕ, ◌-◌, List, [], ◌∷◌, ◌++◌, length, take, Option, Some, None, refl}
use Rattle.vr_state.specs.State.{State}
use Rattle.vr_state.specs.declared.message.PeerMessage.{PeerMessage}
use Rattle.vr_state.specs.Words.{LogEntry}
use Rattle.vr_state.specs.declared.words.Status.{Status}
use Rattle.vr_world.specs.Committed.{committed}
use Rattle.vr_world.specs.World.{World, WorldEvent, Message, ReplyBy, happens, start, after, sent_as}
use Rattle.vr_state.specs.declared.message.PeerMessage.TheVariants.{NewState}
use Rattle.vr_state.specs.declared.words.Status.TheVariants.{Normal, ViewChange, Recovering}
use Rattle.vr_world.specs.declared.events.WorldEvent.TheVariants.{Request, Deliver, Suspect, Beat, Crash, Recover, Resume}

-- An event, some deliveries in turn, or a look at a replica.
pub data Action : Type 0 where
  Do : WorldEvent ℕ → Action
  DeliverAll : List ℕ → Action
  Look : ℕ → Action

-- A reply, or what a look shows.
pub data Line : Type 0 where
  Replied : (replica client request_number op_number : ℕ) → Line
  IsIn : (replica view_number : ℕ) (status : Status) (log commit_number : ℕ) → Line
  IsDown : (replica : ℕ) → Line

-- A request of a client without home, for nothing.
abbrev ask : ℕ → ℕ → ℕ → Action
ask i c s = Do (Request i (record {
  client = record { home = 0; life = 0; number = c };
  request_number = s;
  payload =
      0;
}))

-- A line for each of these replies, the oldest first.
abbrev lines : List ReplyBy → List Line
lines [] = []
lines (t ∷ ts) = lines ts ++ Replied t.replica t.reply.client.number t.reply.request_number t.reply.op_number ∷ []

-- The replies of the second world that the first has not.
abbrev news : World ℕ → World ℕ → List Line
news old w = lines (take (length w.replies - length old.replies) w.replies)

-- what a look shows
abbrev line : ℕ → Option (State ℕ) → Line
line i None = IsDown i
line i (Some r) = IsIn i r.view_number r.status (length r.log) r.commit_number

-- deliveries in turn
abbrev all_delivered : ℕ → List ℕ → World ℕ → World ℕ
all_delivered n [] w = w
all_delivered n (k ∷ ks) w = all_delivered n ks (happens n w (Deliver k))

-- What the script prints from this world on.
abbrev printed : ℕ → World ℕ → List Action → List Line
printed n w [] = []
printed n w (Do e ∷ rest) = let next = happens n w e in news w next ++ printed n next rest
printed n w (DeliverAll ks ∷ rest) = let next = all_delivered n ks w in news w next ++ printed n next rest
printed n w (Look i ∷ rest) = line i (w.replicas i) ∷ printed n w rest

-- A record outlives the primary that took it: it is committed in the next view, and asked again it is answered again.
primary_crashes : printed 3 (start 3) (ask 0 7 1 ∷ DeliverAll (1 ∷ []) ∷ Do (Crash 0) ∷ Do (Suspect 1) ∷ DeliverAll
    (5 ∷ 7 ∷ 8 ∷ []) ∷ ask 1 7 1 ∷ DeliverAll (10 ∷ 11 ∷ []) ∷ ask 1 7 1 ∷ Look 1 ∷ [])
    ≡ Replied 1 7 1 1 ∷ Replied 1 7 1 1 ∷ IsIn 1 1 Normal 1 1 ∷ []
primary_crashes = refl

-- Hearing of a later view cuts no log: replica 2 holds the one committed record through two views.
log_stays_whole : printed 5 (start 5) (ask 0 7 1 ∷ DeliverAll (1 ∷ 2 ∷ 5 ∷ 6 ∷ []) ∷ Do (Suspect 1) ∷ Do
    (Suspect 3) ∷ Do (Suspect 4) ∷ DeliverAll (9 ∷ 18 ∷ 10 ∷ 14 ∷ 12 ∷ 16 ∷ 19 ∷ 20 ∷ []) ∷ Do (Beat 1) ∷ DeliverAll
    (26 ∷ []) ∷ Look 2 ∷ Do (Crash 1) ∷ Do (Crash 0) ∷ Do (Suspect 2) ∷ Do (Suspect 2) ∷ DeliverAll
    (36 ∷ 37 ∷ 45 ∷ 41 ∷ 40 ∷ 44 ∷ 46 ∷ 47 ∷ 50 ∷ 51 ∷ 52 ∷ 53 ∷ []) ∷ Look 2 ∷ [])
    ≡ Replied 0 7 1 1 ∷ IsIn 2 0 Normal 1 0 ∷ Replied 2 7 1 1 ∷ IsIn 2 2 Normal 1 1 ∷ []
log_stays_whole = refl

-- A request that is executed is answered again, and a backup commits at a beat.
asked_again : printed 3 (start 3) (ask 0 7 1 ∷ DeliverAll (1 ∷ 3 ∷ []) ∷ Look 1 ∷ ask 0 7 1 ∷ Do (Beat 0) ∷ DeliverAll
    (4 ∷ []) ∷ Look 1 ∷ [])
    ≡ Replied 0 7 1 1 ∷ IsIn 1 0 Normal 1 0 ∷ Replied 0 7 1 1 ∷ IsIn 1 0 Normal 1 1 ∷ []
asked_again = refl

-- An acknowledgement of the old view still counts at its primary, beside the new view: both have the same record.
old_view_commits : printed 3 (start 3) (ask 0 7 1 ∷ DeliverAll (1 ∷ []) ∷ Do (Suspect 1) ∷ DeliverAll
    (5 ∷ 7 ∷ 8 ∷ []) ∷ ask 1 7 1 ∷ DeliverAll (10 ∷ 11 ∷ []) ∷ DeliverAll (3 ∷ []) ∷ Look 0 ∷ DeliverAll
    (9 ∷ []) ∷ Look 0 ∷ Look 1 ∷ [])
    ≡ Replied 1 7 1 1 ∷ Replied 0 7 1 1 ∷ IsIn 0 0 Normal 1 1 ∷ IsIn 0 1 Normal 1 1 ∷ IsIn 1 1 Normal 1 1 ∷ []
old_view_commits = refl

-- A backup that misses records gets all from its commit-number on, here from the first, and acknowledges all of it.
missing_record : printed 3 (start 3) (ask 0 7 1 ∷ ask 0 7 2 ∷ DeliverAll (4 ∷ 5 ∷ 6 ∷ 7 ∷ []) ∷ Look 2 ∷ [])
    ≡ Replied 0 7 1 1 ∷ Replied 0 7 2 2 ∷ IsIn 2 0 Normal 2 0 ∷ []
missing_record = refl

-- A backup that has one record committed and misses the second asks from there on: message 11 has records 2 and 3.
tail_alone : printed 3 (start 3) (ask 0 7 1 ∷ DeliverAll (2 ∷ 3 ∷ []) ∷ Do (Beat 0) ∷ DeliverAll (5 ∷ []) ∷ ask 0 7
    2 ∷ ask 0 7 3 ∷ DeliverAll (9 ∷ 10 ∷ []) ∷ Look 2 ∷ DeliverAll (11 ∷ []) ∷ Look 2 ∷ DeliverAll (12 ∷ []) ∷ [])
    ≡ Replied 0 7 1 1 ∷ IsIn 2 0 Normal 1 1 ∷ IsIn 2 0 Normal 3 1 ∷ Replied 0 7 2 2 ∷ Replied 0 7 3 3 ∷ []
tail_alone = refl

-- A replica that left a view before it crashed doesn't recover into it: the stored view keeps its promise.
promise_outlives_crash : printed 3 (start 3) (ask 0 7 1 ∷ Do (Suspect 2) ∷ Do (Crash 2) ∷ Do
    (Recover 2 5) ∷ DeliverAll (5 ∷ 6 ∷ 7 ∷ 8 ∷ []) ∷ Look 2 ∷ DeliverAll (4 ∷ 9 ∷ 13 ∷ []) ∷ Do (Beat 2) ∷ DeliverAll
    (14 ∷ 16 ∷ 17 ∷ 19 ∷ 20 ∷ []) ∷ Look 2 ∷ DeliverAll (18 ∷ []) ∷ [])
    ≡ IsIn 2 1 Recovering 0 0 ∷ IsIn 2 1 Normal 1 0 ∷ Replied 1 7 1 1 ∷ []
promise_outlives_crash = refl

-- A STARTVIEW that comes again is dropped: the log doesn't go back.
start_view_repeated : printed 3 (start 3) (Do (Suspect 1) ∷ DeliverAll (2 ∷ 4 ∷ 5 ∷ 7 ∷ []) ∷ ask 1 7 1 ∷ DeliverAll
    (10 ∷ 11 ∷ []) ∷ DeliverAll (7 ∷ []) ∷ Look 2 ∷ [])
    ≡ Replied 1 7 1 1 ∷ IsIn 2 1 Normal 1 0 ∷ []
start_view_repeated = refl

-- A replica stores view 1 and crashes before anybody hears of it. Its suspicion says it again, with two answers below
-- that view and not with one; so the others leave view 0, and it recovers in view 2.
stored_view_unheard : printed 3 (start 3) (ask 0 7 1 ∷ DeliverAll (2 ∷ 3 ∷ []) ∷ Do (Suspect 1) ∷ Do (Crash 1) ∷ Do
    (Recover 1 5) ∷ DeliverAll (6 ∷ 7 ∷ 8 ∷ []) ∷ Do (Suspect 1) ∷ DeliverAll (9 ∷ []) ∷ Look 1 ∷ Do
    (Suspect 1) ∷ Look 1 ∷ DeliverAll (10 ∷ 11 ∷ []) ∷ Look 0 ∷ Do (Suspect 2) ∷ DeliverAll (18 ∷ 21 ∷ 22 ∷ []) ∷ Do
    (Beat 1) ∷ DeliverAll (23 ∷ 25 ∷ 26 ∷ 28 ∷ 29 ∷ []) ∷ Look 1 ∷ [])
    ≡ Replied 0 7 1 1 ∷ IsIn 1 1 Recovering 0 0 ∷ IsIn 1 1 Recovering 0 0 ∷ IsIn 0 1 ViewChange 1 1 ∷ Replied 2 7 1
    1 ∷ IsIn 1 2 Normal 1 1 ∷ []
stored_view_unheard = refl

-- A power cut of all three after an update was answered: they go on from their journals, and the update is committed
-- again by a beat.
power_cut : printed 3 (start 3) (ask 0 7 1 ∷ DeliverAll (1 ∷ 3 ∷ []) ∷ Do (Crash 0) ∷ Do (Crash 1) ∷ Do
    (Crash 2) ∷ Look 0 ∷ Do (Resume 0 0) ∷ Do (Resume 1 0) ∷ Do (Resume 2 0) ∷ Look 0 ∷ Look 1 ∷ Look 2 ∷ Do
    (Beat 0) ∷ DeliverAll (4 ∷ 6 ∷ []) ∷ Look 0 ∷ [])
    ≡ Replied 0 7 1 1 ∷ IsDown 0 ∷ IsIn 0 0 Normal 1 0 ∷ IsIn 1 0 Normal 1 0 ∷ IsIn 2 0 Normal 0 0 ∷ Replied 0 7 1
    1 ∷ IsIn 0 0 Normal 1 1 ∷ []
power_cut = refl

-- A power cut in mid view change, without the old primary: the two others go on changing, note one another again, and
-- view 1 begins with the record.
power_cut_in_a_change : printed 3 (start 3) (ask 0 7 1 ∷ DeliverAll (1 ∷ 3 ∷ []) ∷ Do (Suspect 1) ∷ Do
    (Suspect 2) ∷ Do (Crash 0) ∷ Do (Crash 1) ∷ Do (Crash 2) ∷ Do (Resume 1 0) ∷ Do (Resume 2 0) ∷ Look 1 ∷ Look
    2 ∷ Do (Beat 1) ∷ Do (Beat 2) ∷ DeliverAll (9 ∷ 11 ∷ 12 ∷ []) ∷ Look 1 ∷ [])
    ≡ Replied 0 7 1 1 ∷ IsIn 1 1 ViewChange 1 0 ∷ IsIn 2 1 ViewChange 0 0 ∷ IsIn 1 1 Normal 1 0 ∷ []
power_cut_in_a_change = refl

-- A power cut of all three, and one journal is lost: that replica recovers from the two that go on. It has no journal
-- while it recovers, so a crash then leaves nothing to go on from.
one_journal_lost : printed 3 (start 3) (ask 0 7 1 ∷ DeliverAll (1 ∷ 3 ∷ []) ∷ Do (Crash 0) ∷ Do (Crash 1) ∷ Do
    (Crash 2) ∷ Do (Resume 0 1) ∷ Do (Resume 1 0) ∷ Do (Recover 2 5) ∷ Do (Crash 2) ∷ Do (Resume 2 9) ∷ Look 2 ∷ Do
    (Recover 2 6) ∷ DeliverAll (6 ∷ 7 ∷ 8 ∷ 9 ∷ []) ∷ Look 0 ∷ Look 2 ∷ [])
    ≡ Replied 0 7 1 1 ∷ IsDown 2 ∷ IsIn 0 0 Normal 1 1 ∷ IsIn 2 0 Normal 1 1 ∷ []
one_journal_lost = refl

-- a record
abbrev one : LogEntry ℕ
one = record { client = record { home = 0; life = 0; number = 7 }; request_number = 1; payload = 5 }

-- The committed list of the first schedule, before and after the acknowledgement.
committed_before : committed 3 (after 3 (Request 0 one ∷ [])).messages ≡ []
committed_before = refl

committed_after : committed 3 (after 3 (Request 0 one ∷ Deliver 1 ∷ [])).messages ≡ one ∷ []
committed_after = refl

-- The records of the schedule whose tail goes alone.
abbrev numbered : ℕ → LogEntry ℕ
numbered s = record { client = record { home = 0; life = 0; number = 7 }; request_number = s; payload = 5 }

-- what a NEWSTATE holds
abbrev of_body : PeerMessage ℕ → Option (ℕ × List (LogEntry ℕ))
of_body (NewState v x tail) = Some (x, tail.log)
of_body _ = None

-- What a NEWSTATE that was sent holds: how many records come before the tail, and the tail.
abbrev tail_in : Option (Message ℕ) → Option (ℕ × List (LogEntry ℕ))
tail_in (Some m) = of_body m.body
tail_in None = None

-- Message 11 has the two records after the first.
two_records : tail_in (sent_as 11 (after 3 (Request 0 (numbered 1) ∷ Deliver 2 ∷ Deliver 3 ∷ Beat 0 ∷ Deliver
    5 ∷ Request 0 (numbered 2) ∷ Request 0 (numbered 3) ∷ Deliver 9 ∷ Deliver 10 ∷ [])).messages)
    ≡ Some (1, numbered 2 ∷ numbered 3 ∷ [])
two_records = refl
