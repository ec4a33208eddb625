-- A request that happens in the world is one that the schedule gives.
use Rattle.std.proofs.Common.{◌≡◌, ℕ, Bool, ◌⊎◌, inl, inr, List, [], ◌∷◌, ◌++◌, Result, Ok, Err, refl, ap, ◌∙◌, subst}
use Rattle.std.specs.declared.alloc.AllocError.{AllocError}
use Rattle.state_machine.specs.dir_store.ldap_dn.Names.{RdnModel}
use Rattle.state_machine.specs.dir_store.ldap_op.Values.{OpValue}
use Rattle.state_machine.specs.dir_store.ldap_schema.Schema.{SchemaModel}
use Rattle.vr_state.specs.Lists.{In}
use Rattle.vr_state.specs.Words.{LogEntry}
use Rattle.vr_state.specs.declared.message.Outputs.{Outputs}
use Rattle.vr_world.specs.World.{World, happens, run}
use Rattle.vr_world.specs.declared.events.WorldEvent.{WorldEvent}
use Rattle.vr_world.specs.declared.events.WorldEvent.TheVariants.{Request, Crash, Recover, Resume}
use Rattle.dir_machine.specs.Happening.{EndsInside, GoesOnOver, HappenInTurn, IsThat, MayHappen, StartsAgain, StartsFirst, TakesEach, TakesSome}
use Rattle.dir_machine.specs.Headline.{WasGiven, given_at, joined}
use Rattle.dir_machine.specs.declared.events.Given.{Given}
use Rattle.dir_machine.specs.declared.events.Given.TheVariants as given
use Rattle.dir_machine.specs.declared.events.MachineEvent.{MachineEvent}
use Rattle.dir_machine.specs.declared.events.MachineEvent.TheVariants as event
use Rattle.dir_machine.specs.declared.replies.MachineReply.{MachineReply}
use Rattle.dir_machine.specs.declared.replies.MachineReply.TheVariants as reply

-- what is in one of two lists
in_two : {A : Type 0} (x : A) (xs ys : List A) → In x (xs ++ ys) → In x xs ⊎ In x ys
in_two x [] ys h = inr h
in_two x (y ∷ xs) ys (inl e) = inl (inl e)
in_two {A} x (y ∷ xs) ys (inr h) = go (in_two x xs ys h)
  where
    go : In x xs ⊎ In x ys → In x (y ∷ xs) ⊎ In x ys
    go (inl k) = inl (inr k)
    go (inr k) = inr k

module _ (n : ℕ) (before : List MachineReply) (i j : ℕ) (e : LogEntry OpValue) where
  -- what a replica is given is that request
  that_is : (g : Given) (w : World OpValue) (x : WorldEvent OpValue) → IsThat before i g w x → Request j e ≡ x →
      given.Request e ≡ g
  that_is (given.Request entry) w x is q = let same : e ≡ entry = cc (q ∙ is) in ap given.Request same
  that_is (given.Message place) w x is q = absurd (cc (q ∙ is.is))
  that_is (given.Frames at heard) w x is q = absurd (cc (q ∙ is.is))
  that_is (given.Heard places) w x is q = absurd (cc (q ∙ is.2.is))
  that_is given.Suspect w x is q = absurd (cc (q ∙ is))
  that_is given.Beat w x is q = absurd (cc (q ∙ is))

  -- one of those that it takes
  each_given : (gs : List Given) (outs : List (Result (Outputs OpValue) AllocError)) (h : List (WorldEvent OpValue))
      (w : World OpValue) → TakesEach n before i gs outs h w → In (Request j e) h → In (given.Request e) gs
  each_given [] [] [] w t k = absurd k
  each_given (g ∷ gs) (Ok out ∷ outs) (x ∷ h) w t (inl q) = inl (that_is g w x t.0 q)
  each_given (g ∷ gs) (Ok out ∷ outs) (x ∷ h) w t (inr k) = inr (each_given gs outs h (happens n w x) t.2 k)
  each_given (g ∷ gs) (Err f ∷ outs) h w t k = inr (each_given gs outs h w t k)
  each_given (g ∷ gs) (Ok out ∷ outs) [] w t k = absurd k
  each_given (g ∷ gs) [] h w t k = absurd t
  each_given [] (o ∷ outs) h w t k = absurd t
  each_given [] [] (x ∷ h) w t k = absurd t

  -- or of some first of them
  some_given : (gs : List Given) (h : List (WorldEvent OpValue)) (w : World OpValue) → TakesSome n before i gs h w →
      In (Request j e) h → In (given.Request e) gs
  some_given [] h w t k = absurd (subst (In (Request j e)) t k)
  some_given (g ∷ gs) h w (inl t) k = absurd (subst (In (Request j e)) t k)
  some_given (g ∷ gs) h w (inr (inl t)) k = inr (some_given gs h w t k)
  some_given (g ∷ gs) h w (inr (inr t)) k = go (some_given gs t.1 (happens n w t.0) t.4)
      (subst (In (Request j e)) t.2 k)
    where
      go : (In (Request j e) t.1 → In (given.Request e) gs) → (Request j e ≡ t.0) ⊎ In (Request j e) t.1 →
          In (given.Request e) (g ∷ gs)
      go ih (inl q) = inl (that_is g w t.0 t.3 q)
      go ih (inr m) = inr (ih m)

  -- before the process ended
  inside_given : (gs : List Given) (h : List (WorldEvent OpValue)) (w : World OpValue) →
      EndsInside n before i gs h w → In (Request j e) h → In (given.Request e) gs
  inside_given gs h w ends k = go (in_two (Request j e) ends.taken (Crash i ∷ [])
      (subst (In (Request j e)) ends.crash k))
    where
      go : In (Request j e) ends.taken ⊎ In (Request j e) (Crash i ∷ []) → In (given.Request e) gs
      go (inl m) = some_given gs ends.taken w ends.some m
      go (inr (inl q)) = absurd (cc q)
      go (inr (inr m)) = absurd m

module _ (s : SchemaModel) (root : List RdnModel) (cluster n : ℕ) (journaled : Bool) (j : ℕ)
    (e : LogEntry OpValue) where
  -- nothing happened
  none_given : (h : List (WorldEvent OpValue)) {A : Type 0} → h ≡ [] → In (Request j e) h → A
  none_given h is k = absurd (subst (In (Request j e)) is k)

  -- a start
  start_given : (before : List MachineReply) (i restarts : ℕ) (out : Outputs OpValue) (h : List (WorldEvent OpValue))
      (w : World OpValue) {A : Type 0} → StartsFirst before i restarts out h
      ⊎ StartsAgain n journaled before i restarts out h w ⊎ GoesOnOver n journaled before i out h w →
      In (Request j e) h → A
  start_given before i restarts out h w {A} starts k = go starts
    where
      one : (x : WorldEvent OpValue) → (Request j e ≡ x → ⊥) → h ≡ x ∷ [] → A
      one x ne is = by (subst (In (Request j e)) is k)
        where
          by : (Request j e ≡ x) ⊎ ⊥ → A
          by (inl q) = absurd (ne q)
          by (inr m) = absurd m

      go : StartsFirst before i restarts out h ⊎ StartsAgain n journaled before i restarts out h w
          ⊎ GoesOnOver n journaled before i out h w → A
      go (inl f) = absurd (subst (In (Request j e)) f.nothing k)
      go (inr (inl f)) = one (Recover i restarts) (λ q. absurd (cc q)) f.one
      go (inr (inr f)) = one (Resume i f.many) (λ q. absurd (cc q)) f.one

  -- one event of the schedule
  may_given : (before : List MachineReply) (ev : MachineEvent) (x : MachineReply) (h : List (WorldEvent OpValue))
      (w : World OpValue) → MayHappen s root cluster n journaled before ev x h w → In (Request j e) h →
      In (given.Request e) (given_at ev)
  may_given before (event.Give i g) (reply.Handled k outs behind) h w may m = each_given n before i j e (g ∷ [])
      outs.items h w may.1 m
  may_given before (event.Give i g) (reply.Stopped k f) h w may m = inside_given n before i j e (g ∷ []) h w may.2 m
  may_given before (event.Give i g) reply.Nothing h w may m = none_given h may.0 m
  may_given before (event.Give i g) (reply.Refused k f) h w may m = none_given h may.2 m
  may_given before (event.Give i g) _ h w may m = absurd may
  may_given before (event.GiveAll i gs) (reply.Handled k outs behind) h w may m = each_given n before i j e gs.items
      outs.items h w may.1 m
  may_given before (event.GiveAll i gs) (reply.Stopped k f) h w may m = inside_given n before i j e gs.items h w may.2
      m
  may_given before (event.GiveAll i gs) reply.Nothing h w may m = none_given h may.0 m
  may_given before (event.GiveAll i gs) (reply.Refused k f) h w may m = none_given h may.2 m
  may_given before (event.GiveAll i gs) _ h w may m = absurd may
  may_given before (event.Write place sizes) x h w may m = none_given h may.0 m
  may_given before (event.Crash i fates) reply.Nothing h w may m = none_given h may.0 m
  may_given before (event.Crash i fates) (reply.Crashed k) h w may m = crash (subst (In (Request j e)) may.1 m)
    where
      crash : (Request j e ≡ Crash i) ⊎ ⊥ → In (given.Request e) []
      crash (inl q) = absurd (cc q)
      crash (inr l) = l
  may_given before (event.Crash i fates) _ h w may m = absurd may
  may_given before (event.Start i faults fates) reply.Nothing h w may m = none_given h may.0 m
  may_given before (event.Start i faults fates) (reply.Started k restarts out) h w may m =
      start_given before i restarts out h w may.1 m
  may_given before (event.Start i faults fates) (reply.Refused k f) h w may m = none_given h may.1 m
  may_given before (event.Start i faults fates) (reply.Stopped k f) h w may m = none_given h may.1 m
  may_given before (event.Start i faults fates) _ h w may m = absurd may
  may_given before (event.Ask i client number) reply.Nothing h w may m = none_given h may.0 m
  may_given before (event.Ask i client number) (reply.Outcome k o) h w may m = none_given h may.1 m
  may_given before (event.Ask i client number) _ h w may m = absurd may
  may_given before (event.Search i named q) reply.Nothing h w may m = none_given h may.0 m
  may_given before (event.Search i named q) (reply.Found k number a) h w may m = none_given h may.1 m
  may_given before (event.Search i named q) (reply.NotYet k number) h w may m = none_given h may.1 m
  may_given before (event.Search i named q) (reply.Refused k f) h w may m = none_given h may.2 m
  may_given before (event.Search i named q) _ h w may m = absurd may
  may_given before (event.Compare i named q) reply.Nothing h w may m = none_given h may.0 m
  may_given before (event.Compare i named q) (reply.Compared k number r) h w may m = none_given h may.1 m
  may_given before (event.Compare i named q) (reply.NotYet k number) h w may m = none_given h may.1 m
  may_given before (event.Compare i named q) (reply.Refused k f) h w may m = none_given h may.2 m
  may_given before (event.Compare i named q) _ h w may m = absurd may
  may_given before (event.State i) reply.Nothing h w may m = none_given h may.0 m
  may_given before (event.State i) (reply.Standing k v st p c) h w may m = none_given h may.0 m
  may_given before (event.State i) _ h w may m = absurd may

  -- A request of what happens at a schedule is given by it.
  pub turn_given : (before : List MachineReply) (es : List MachineEvent) (xs : List MachineReply)
      (hs : List (List (WorldEvent OpValue))) (w : World OpValue) → HappenInTurn s root cluster n journaled before es xs
      hs w →
      In (Request j e) (joined hs) → WasGiven es e
  turn_given before [] [] [] w t k = absurd k
  turn_given before (ev ∷ es) (x ∷ xs) (h ∷ hs) w t k = go (turn_given (before ++ x ∷ []) es xs hs (run n h w) t.1)
      (in_two (Request j e) h (joined hs) k)
    where
      go : (In (Request j e) (joined hs) → WasGiven es e) → In (Request j e) h ⊎ In (Request j e) (joined hs) →
          WasGiven (ev ∷ es) e
      go ih (inl m) = record { event = ev; scheduled = inl refl; request = may_given before ev x h w t.0 m }
      go ih (inr m) = let g = ih m in record { event = g.event; scheduled = inr g.scheduled; request = g.request }
  turn_given before [] [] (h ∷ hs) w t k = absurd t
  turn_given before [] (x ∷ xs) hs w t k = absurd t
  turn_given before (ev ∷ es) [] hs w t k = absurd t
  turn_given before (ev ∷ es) (x ∷ xs) [] w t k = absurd t
