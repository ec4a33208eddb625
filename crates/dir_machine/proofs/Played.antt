-- A run goes on by one event of each kind, from none to a whole schedule.
use Rattle.std.proofs.Common.{◌≡◌, ℕ, ◌<◌, ◌≤◌, true, cond, inr, List, [], ◌∷◌, ◌++◌, length, set, take, drop, Option, Some, None, Vec, slice_get, refl, sym, ap, ◌∙◌, subst, arith, lt-ltb, append-nil, append_assoc, take-append-drop}
use Rattle.std.specs.Arc.{arc_value}
use Rattle.std.specs.Global.{Global}
use Rattle.std.proofs.lemmas.List.{length-set}
use Rattle.std.proofs.lemmas.Option.{slice_get_within}
use Rattle.dir_search.specs.ldap_msg.View.{compare_view, search_view}
use Rattle.dir_search.specs.ldap_msg.ldap_requests.declared.compare.CompareRequest.{CompareRequest}
use Rattle.dir_search.specs.ldap_msg.ldap_requests.declared.search.SearchRequest.{SearchRequest}
use Rattle.state_machine.specs.dir_store.ldap_op.Values.{OpValue}
use Rattle.vr_state.specs.Lists.{IsPrefix}
use Rattle.vr_state.specs.State.{first}
use Rattle.vr_state.specs.StepLaw.{LatestIsOfClient}
use Rattle.vr_state.specs.Words.{Client}
use Rattle.vr_state.specs.declared.event.Event.{Event}
use Rattle.vr_wire.specs.PartLaws.{FramesGiveMessage}
use Rattle.vr_wire.specs.declared.parts.FrameSizes.{FrameSizes}
use Rattle.vr_world.proofs.Laws.{chosen_lists_agree, committed_grows, committed_is_longest, committed_was_asked, commits_are_held, numbers_rise, replicas_agree}
use Rattle.vr_world.proofs.Holding.{majorities_hold}
use Rattle.vr_world.specs.Law.{IsSize, TakesPart}
use Rattle.vr_world.specs.World.{World, after, run, start}
use Rattle.vr_world.specs.declared.events.WorldEvent.{WorldEvent}
use Rattle.dir_machine.specs.declared.events.Fates.{Fates}
use Rattle.dir_machine.specs.declared.events.Faults.{Faults}
use Rattle.dir_machine.proofs.Absent.{absent_missing, one_absent}
use Rattle.dir_machine.proofs.Asks.{answered_on, told_on}
use Rattle.dir_machine.proofs.Framed.{all_framed}
use Rattle.dir_machine.proofs.Gives.{Acted, MayEnd, down_not_up, ended_on, given_on, may_all, may_one, unborn_not_up}
use Rattle.dir_machine.proofs.Processes.{IsQuiet, not_missing, played_on, stands_on, stands_still, takes_part}
use Rattle.dir_machine.proofs.Looks.{compared_on, searched_on}
use Rattle.dir_machine.proofs.Requested.{turn_given}
use Rattle.dir_machine.proofs.Starts.{MayStart, started_on}
use Rattle.dir_machine.proofs.Worlds.{IsReached}
use Rattle.dir_machine.specs.Happening.{IsWritten, MayHappen}
use Rattle.dir_machine.specs.Headline.{CommittedIsOneList, IsWhole, MajoritiesKeep, committed_after, joined}
use Rattle.dir_machine.specs.Shown.{stage, up}
use Rattle.dir_machine.specs.private.Givens.{AreAsked, IsAbsent, IsAsked, IsOneAbsent}
use Rattle.dir_machine.specs.private.Processes.{IsAnswered, IsCompared, IsEnded, IsGiven, IsNew, IsSearched, IsStarted, IsToldOf}
use Rattle.dir_machine.specs.private.Running.{AreFramed, AreNew, AreSent, GoesOn, Laws, IsNothingShown, IsPlayed, Stands, StandsFor}
use Rattle.dir_machine.specs.declared.events.Given.{Given}
use Rattle.dir_machine.specs.declared.events.MachineEvent.{MachineEvent}
use Rattle.dir_machine.specs.declared.events.MachineEvent.TheVariants as event
use Rattle.dir_machine.specs.declared.events.Place.{Place}
use Rattle.dir_machine.specs.declared.machine.Machine.{Machine}
use Rattle.dir_machine.specs.declared.process.Process.{Process}
use Rattle.dir_machine.specs.declared.process.Process.TheVariants.{Unborn, Up, Down}
use Rattle.dir_machine.specs.declared.replies.MachineReply.{MachineReply}
use Rattle.dir_machine.specs.declared.replies.MachineReply.TheVariants as reply
use Rattle.dir_machine.specs.declared.running.Running.{Running}

-- what may happen, said another way
acted_as : (m : Machine) (w : World OpValue) (i : ℕ) (shown : List MachineReply) (x : MachineReply) (p : Process)
    (May Might : List (WorldEvent OpValue) → Type 0) → ((h : List (WorldEvent OpValue)) → May h → Might h)
    → Acted m w i shown x p May → Acted m w i shown x p Might
acted_as m w i shown x p May Might f a = record { happened = a.happened; may = f a.happened a.may; moved = a.moved }

-- a process that is to end
may_end : (laws : Laws) (m : Machine) (size : IsSize m.count) (w : World OpValue) (i : ℕ) (lt : i < m.count)
    (shown : List MachineReply) (reached : IsReached m.count w) (framed : AreFramed m.cluster shown)
    (sent : AreSent shown w) (fates : Fates) (x : MachineReply) (h : List (WorldEvent OpValue))
    → MayEnd laws m size w i lt shown reached framed sent x h → MayHappen (arc_value m.schema) m.suffix m.cluster
    m.count m.journaled
    shown (event.Crash i fates) x h w
may_end laws m size w i lt shown reached framed sent fates reply.Nothing h may = (may.0, inr may.1)
may_end laws m size w i lt shown reached framed sent fates (reply.Crashed j) h may = may
may_end laws m size w i lt shown reached framed sent fates _ h may = absurd may

-- a process that is to start
may_start : (m : Machine) (w : World OpValue) (i : ℕ) (lt : i < m.count) (shown : List MachineReply)
    (x : MachineReply) (h : List (WorldEvent OpValue))
    → (faults : Faults) (fates : Fates) → MayStart m w i lt shown x h → MayHappen (arc_value m.schema) m.suffix
    m.cluster m.count m.journaled shown (event.Start i faults fates) x h w
may_start m w i lt shown reply.Nothing h faults fates may = (may.0, inr may.1)
may_start m w i lt shown (reply.Started j restarts out) h faults fates may = may
may_start m w i lt shown (reply.Refused j e) h faults fates may = may
may_start m w i lt shown (reply.Stopped j e) h faults fates may = may
may_start m w i lt shown _ h faults fates may = absurd may

-- one process was taken out and put back
pub record Turned (m : Machine) (i : ℕ) (old new : Running) (before after : Process) (x : MachineReply) : Type 0 where
  pub hole : Process
  pub counted : length old.processes.items ≡ m.count
  pub within : i < m.count
  pub was : slice_get old.processes.items i ≡ Some before
  pub processes : new.processes.items ≡ set (set old.processes.items i hole) i after
  pub shown : new.shown.items ≡ old.shown.items ++ x ∷ []

module _ (m : Machine) (e : MachineEvent) (old new : Running) where
  -- the frames that were shown tell their messages
  framed_so : (es : List MachineEvent) → IsPlayed m es old.processes.items old.shown.items →
      AreFramed m.cluster old.shown.items
  framed_so es p = all_framed (arc_value m.schema) m.suffix m.cluster m.count m.journaled es old.shown.items p.happened
      (start m.count) p.in_turn

  -- so the run goes on, where that was an act of the process
  turned_on : (i : ℕ) (before after : Process) (x : MachineReply) → Turned m i old new before after x
      → (IsSize m.count → (w : World OpValue) → IsReached m.count w → AreFramed m.cluster old.shown.items →
      AreSent old.shown.items w → StandsFor m w i (stage old.shown.items i) before
      → Acted m w i old.shown.items x after (λ h. MayHappen (arc_value m.schema) m.suffix m.cluster m.count m.journaled
      old.shown.items e x h w)) → GoesOn m e old new
  turned_on i before after x t act = record {
    counted = ap length t.processes ∙ length-set (set old.processes.items i t.hole) i after
        ∙ length-set old.processes.items i t.hole;
    played = λ size es p. go size es p (act size (run m.count (joined p.happened) (start m.count))
        (record { past = joined p.happened; is = refl }) (framed_so es p) p.stands.sent (p.stands.each i before t.was));
  }
    where
      go : IsSize m.count → (es : List MachineEvent) (p : IsPlayed m es old.processes.items old.shown.items)
          → Acted m (run m.count (joined p.happened) (start m.count)) i old.shown.items x after
          (λ h. MayHappen (arc_value m.schema) m.suffix m.cluster m.count m.journaled old.shown.items e x h
          (run m.count (joined p.happened) (start m.count)))
          → IsPlayed m (es ++ e ∷ []) new.processes.items new.shown.items
      go size es p a =
          subst (λ (l : List MachineReply). IsPlayed m (es ++ e ∷ []) new.processes.items l) (sym t.shown)
          (played_on m es old.processes.items new.processes.items old.shown.items e x a.happened p a.may
          (stands_on m (run m.count (joined p.happened) (start m.count))
          (run m.count a.happened (run m.count (joined p.happened) (start m.count))) i old.shown.items x
          old.processes.items new.processes.items t.hole after p.stands
          (omega (arith, t.counted, t.within)) t.processes a.moved))

  -- so it does where something is shown and nothing happens
  still_on : (x : MachineReply) → new.processes.items ≡ old.processes.items → new.shown.items ≡
      old.shown.items ++ x ∷ []
      → (IsSize m.count → (w : World OpValue) → IsReached m.count w → AreFramed m.cluster old.shown.items →
      Stands m w old.processes.items old.shown.items
      → MayHappen (arc_value m.schema) m.suffix m.cluster m.count m.journaled old.shown.items e x [] w × IsQuiet x) →
      GoesOn m e old new
  still_on x same shown act = record {
    counted = ap length same;
    played = λ size es p. go size es p (act size (run m.count (joined p.happened) (start m.count))
        (record { past = joined p.happened; is = refl }) (framed_so es p) p.stands);
  }
    where
      go : IsSize m.count → (es : List MachineEvent) (p : IsPlayed m es old.processes.items old.shown.items)
          → MayHappen (arc_value m.schema) m.suffix m.cluster m.count m.journaled old.shown.items e x []
          (run m.count (joined p.happened) (start m.count)) × IsQuiet x → IsPlayed m (es ++ e ∷ [])
          new.processes.items new.shown.items
      go size es p a =
          subst (λ (l : List MachineReply). IsPlayed m (es ++ e ∷ []) new.processes.items l) (sym shown)
          (subst (λ (l : List Process). IsPlayed m (es ++ e ∷ []) l (old.shown.items ++ x ∷ [])) (sym same)
          (played_on m es old.processes.items old.processes.items old.shown.items e x [] p a.0
          (stands_still m (run m.count (joined p.happened) (start m.count)) old.shown.items x old.processes.items
          p.stands a.1)))

-- nothing is quiet
quiet_nothing : IsQuiet reply.Nothing
quiet_nothing = record { stages = λ j s. refl; silent = λ part at y h. absurd (cc) }

-- so are frames
quiet_written : (cluster : ℕ) (before : List MachineReply) (place : Place) (sizes : FrameSizes) (x : MachineReply) →
    IsWritten cluster before place sizes x → IsQuiet x
quiet_written cluster before place sizes (reply.Written at to frames) is =
    record { stages = λ j s. refl; silent = λ part at y h. absurd (cc) }
quiet_written cluster before place sizes (reply.Unwritten at) is =
    record { stages = λ j s. refl; silent = λ part at y h. absurd (cc) }
quiet_written cluster before place sizes reply.Nothing is = quiet_nothing
quiet_written cluster before place sizes _ is = absurd is

module _ (laws : Laws) (m : Machine) (old new : Running) where
  -- A node that is up handles one event, or a batch.
  pub give_on : (i : ℕ) (g : Given) (e : Event OpValue) (before after : Process) (x : MachineReply) →
      Turned m i old new before after x → IsAsked m.cluster old.shown.items i g e → IsGiven i (e ∷ []) before after x
      → GoesOn m (event.Give i g) old new
  give_on i g e before after x t asked is = turned_on m (event.Give i g) old new i before after x t
      (λ size w reached framed sent stands. acted_as m w i old.shown.items x after _ _
      (λ h. may_one m old.shown.items i g x
      h w)
      (given_on laws m size w i t.within old.shown.items reached framed sent (g ∷ []) (e ∷ []) before after x
      (asked, tt)
      stands is))

  pub batch_on : (i : ℕ) (gs : Vec Given Global) (es : List (Event OpValue)) (before after : Process)
      (x : MachineReply) → Turned m i old new before after x → AreAsked m.cluster old.shown.items i gs.items es
      → IsGiven i es before after x → GoesOn m (event.GiveAll i gs) old new
  batch_on i gs es before after x t asked is = turned_on m (event.GiveAll i gs) old new i before after x t
      (λ size w reached framed sent stands. acted_as m w i old.shown.items x after _ _
      (λ h. may_all m old.shown.items i gs x
      h w)
      (given_on laws m size w i t.within old.shown.items reached framed sent gs.items es before after x asked stands
      is))

  -- A process ends.
  pub end_on : (i : ℕ) (fates : Fates) (before after : Process) (x : MachineReply) → Turned m i old new before after
      x → IsEnded i before after x → GoesOn m (event.Crash i fates) old new
  end_on i fates before after x t is = turned_on m (event.Crash i fates) old new i before after x t
      (λ size w reached framed sent stands. acted_as m w i old.shown.items x after _ _
      (λ h. may_end laws m size w i t.within
      old.shown.items reached framed sent fates x h)
      (ended_on laws m size w i t.within old.shown.items reached framed sent before after x stands is))

  -- A process starts.
  pub start_on : (i : ℕ) (faults : Faults) (fates : Fates) (before after : Process) (x : MachineReply) →
      Turned m i old new before after x → IsStarted m i before after x → GoesOn m (event.Start i faults fates) old new
  start_on i faults fates before after x t is = turned_on m (event.Start i faults fates) old new i before after x t
      (λ size w reached framed sent stands. acted_as m w i old.shown.items x after _ _ (λ h. may_start m w i t.within
      old.shown.items x h faults fates)
      (started_on m w i t.within old.shown.items laws.one before after x stands is))

module _ (m : Machine) (old new : Running) where
  -- A node is asked.
  pub ask_on : LatestIsOfClient OpValue → (i : ℕ) (client : Client) (number : ℕ) (p : Process) (x : MachineReply) →
      new.processes.items ≡ old.processes.items → new.shown.items ≡ old.shown.items ++ x ∷ []
      → slice_get old.processes.items i ≡ Some p → IsAnswered i client number p x →
      GoesOn m (event.Ask i client number) old new
  ask_on law i client number p x same shown was is = still_on m (event.Ask i client number) old new x same shown
      (λ size w reached framed stands. answered_on m size w i reached law old.shown.items client number p x
      (stands.each i p was) is)

  -- It is asked a search, or a compare.
  pub search_on : (i named : ℕ) (q : SearchRequest) (p : Process) (x : MachineReply) → new.processes.items ≡
      old.processes.items → new.shown.items ≡ old.shown.items ++ x ∷ []
      → slice_get old.processes.items i ≡ Some p → IsSearched i named (search_view q) p x →
      GoesOn m (event.Search i named q) old new
  search_on i named q p x same shown was is = still_on m (event.Search i named q) old new x same shown
      (λ size w reached framed stands. searched_on m size w i reached old.shown.items named q p x
      (stands.each i p was) is)

  pub compare_on : (i named : ℕ) (q : CompareRequest) (p : Process) (x : MachineReply) → new.processes.items ≡
      old.processes.items → new.shown.items ≡ old.shown.items ++ x ∷ []
      → slice_get old.processes.items i ≡ Some p → IsCompared i named (compare_view q) p x →
      GoesOn m (event.Compare i named q) old new
  compare_on i named q p x same shown was is = still_on m (event.Compare i named q) old new x same shown
      (λ size w reached framed stands. compared_on m size w i reached old.shown.items named q p x
      (stands.each i p was) is)

  -- It is asked how far it is.
  pub tell_on : (i : ℕ) (p : Process) (x : MachineReply) → new.processes.items ≡ old.processes.items →
      new.shown.items ≡ old.shown.items ++ x ∷ []
      → slice_get old.processes.items i ≡ Some p → IsToldOf i p x → GoesOn m (event.State i) old new
  tell_on i p x same shown was is = still_on m (event.State i) old new x same shown
      (λ size w reached framed stands. told_on m w i old.shown.items p x (stands.each i p was) is)

  -- There is no such replica.
  pub away_on : (i : ℕ) → m.count ≤ i → IsNothingShown old new → (e : MachineEvent)
      → ((w : World OpValue) → MayHappen (arc_value m.schema) m.suffix m.cluster m.count m.journaled old.shown.items e
      reply.Nothing [] w) → GoesOn m e old new
  away_on i le nothing e may = still_on m e old new reply.Nothing nothing.processes nothing.shown
      (λ size w reached framed stands. (may w, quiet_nothing))

  -- There is no such message.
  pub missing_on : FramesGiveMessage → (i : ℕ) (g : Given) → IsAbsent m.cluster old.shown.items i g →
      IsNothingShown old new → GoesOn m (event.Give i g) old new
  missing_on law i g absent nothing = still_on m (event.Give i g) old new reply.Nothing nothing.processes nothing.shown
      (λ size w reached framed stands. (
        (refl, inr (absent_missing law m.cluster old.shown.items i framed g absent)),
        quiet_nothing,
      ))

  pub one_missing_on : FramesGiveMessage → (i : ℕ) (gs : Vec Given Global) →
      IsOneAbsent m.cluster old.shown.items i gs.items → IsNothingShown old new → GoesOn m (event.GiveAll i gs) old new
  one_missing_on law i gs absent nothing = still_on m (event.GiveAll i gs) old new reply.Nothing nothing.processes
      nothing.shown (λ size w reached framed stands. (
        (refl, inr (one_absent law m.cluster old.shown.items i framed gs.items absent)),
        quiet_nothing,
      ))

  -- A message is written as frames.
  pub write_on : (place : Place) (sizes : FrameSizes) (x : MachineReply) → new.processes.items ≡ old.processes.items →
      new.shown.items ≡ old.shown.items ++ x ∷ [] → IsWritten m.cluster old.shown.items place sizes x →
      GoesOn m (event.Write place sizes) old new
  write_on place sizes x same shown is = still_on m (event.Write place sizes) old new x same shown
      (λ size w reached framed stands. ((refl, is), quiet_written m.cluster old.shown.items place sizes x is))

-- Nothing was played.
pub none_played : (m : Machine) (processes : List Process) (shown : List MachineReply) → AreNew m.count processes →
    shown ≡ [] → IsPlayed m [] processes shown
none_played m processes shown new s = subst (λ (l : List MachineReply). IsPlayed m [] processes l) (sym s) (record {
  happened = [];
  in_turn = tt;
  stands = record {
    counted = new.counted;
    each = λ i q h. one i q (new.each i q h)
        (omega (arith, slice_get_within processes i q h, new.counted));
    sent = λ place y h. absurd (cc);
  };
})
  where
    one : (i : ℕ) (q : Process) → IsNew q → i < m.count → StandsFor m (start m.count) i (stage [] i) q
    one i (Unborn image) new lt = (
      refl,
      record {
        replica = ap (λ b. cond b (Some (first m.count)) None) (lt-ltb i m.count lt);
        stored =
            refl;
        nonces = λ x u. absurd (cc);
      },
    )
    one i _ new lt = absurd new

-- What is committed after events is one list.
committed_is_one : (n : ℕ) → IsSize n → (es : List (WorldEvent OpValue)) → CommittedIsOneList n es
committed_is_one n size es = record {
  agree = λ a b x y. chosen_lists_agree n size es a b x y;
  longest = λ a x. (committed_is_longest n size es).0 a x;
  chosen = (committed_is_longest n size es).1;
  grows = λ k. subst (λ (l : List (WorldEvent OpValue)). IsPrefix (committed_after n (take k es))
      (committed_after n l)) (take-append-drop k es) (committed_grows n size (take k es) (drop k es));
  replicas = λ i r there. replicas_agree n size es i r there;
  held = λ i r there. commits_are_held n size es i r there;
  rising = numbers_rise n size es;
  majorities = λ quorum most part. majorities_hold n size es quorum most part;
}

-- With journals a majority of processes that are up has all that is committed.
kept_by_majorities : (m : Machine) (schedule : List MachineEvent) (processes : List Process)
    (shown : List MachineReply) → IsSize m.count → (p : IsPlayed m schedule processes shown) → m.journaled ≡ true →
    MajoritiesKeep m.count shown (joined p.happened)
kept_by_majorities m schedule processes shown size p journaled quorum most ups = majorities_hold m.count size
    (joined p.happened) quorum most (λ j q. part j (ups j q) (slice_get processes j) refl)
  where
    by : (j : ℕ) → stage shown j ≡ up → (q : Process) → StandsFor m (after m.count (joined p.happened)) j
        (stage shown j) q → TakesPart (after m.count (joined p.happened)) j
    by j is (Up n f) s = takes_part m (after m.count (joined p.happened)) j n s.1 journaled
    by j is (Down left) s = absurd (down_not_up s.0 is)
    by j is (Unborn image) s = absurd (unborn_not_up s.0 is)

    part : (j : ℕ) → (j < m.count) × (stage shown j ≡ up) → (o : Option Process) → slice_get processes j ≡ o →
        TakesPart (after m.count (joined p.happened)) j
    part j is None e = absurd (not_missing processes j (omega (arith, p.stands.counted, is.0)) e)
    part j is (Some q) e = by j is.1 q (p.stands.each j q e)

-- The promise of a schedule that was played.
pub whole : (m : Machine) (schedule : List MachineEvent) (processes : List Process) (shown : List MachineReply) →
    IsSize m.count → IsPlayed m schedule processes shown
    → IsWhole (arc_value m.schema) m.suffix m.cluster m.count m.journaled schedule shown
whole m schedule processes shown size p = record {
  happened = p.happened;
  in_turn = p.in_turn;
  committed = committed_is_one m.count size (joined p.happened);
  asked = λ e k. let a = committed_was_asked m.count size (joined p.happened) e k in
      turn_given (arc_value m.schema) m.suffix m.cluster m.count m.journaled a.replica e [] schedule shown p.happened
      (start m.count) p.in_turn a.asked;
  kept = kept_by_majorities m schedule processes shown size p;
}

-- So much of a schedule was played, and this is left.
pub record IsPlayedSoFar (m : Machine) (schedule left : List MachineEvent) (r : Running) : Type 0 where
  pub gone : List MachineEvent
  pub split : gone ++ left ≡ schedule
  pub counted : length r.processes.items ≡ m.count
  pub played : IsSize m.count → IsPlayed m gone r.processes.items r.shown.items

-- nothing yet
pub none_so_far : (m : Machine) (schedule : List MachineEvent) (r : Running) → AreNew m.count r.processes.items →
    r.shown.items ≡ [] → IsPlayedSoFar m schedule schedule r
none_so_far m schedule r p s = record {
  gone = [];
  split = refl;
  counted = p.counted;
  played = λ size. none_played m r.processes.items r.shown.items p s;
}

-- one more
pub one_so_far : (m : Machine) (schedule left : List MachineEvent) (e : MachineEvent) (old new : Running) →
    IsPlayedSoFar m schedule (e ∷ left) old → GoesOn m e old new → IsPlayedSoFar m schedule left new
one_so_far m schedule left e old new h on = record {
  gone = h.gone ++ e ∷ [];
  split = append_assoc h.gone (e ∷ []) left ∙ h.split;
  counted = on.counted ∙ h.counted;
  played = λ size. on.played size h.gone (h.played size);
}

-- all
pub all_so_far : (m : Machine) (schedule : List MachineEvent) (r : Running) → IsPlayedSoFar m schedule [] r →
    IsSize m.count → IsWhole (arc_value m.schema) m.suffix m.cluster m.count m.journaled schedule r.shown.items
all_so_far m schedule r h size =
    whole m schedule r.processes.items r.shown.items size
    (subst (λ (l : List MachineEvent). IsPlayed m l r.processes.items r.shown.items) (sym (append-nil h.gone)
    ∙ h.split) (h.played size))
