-- What search doesn't prove of `make`: the invariant and the clause `ok`, by lemmas of `Standing`.
use Rattle.std.proofs.Common.{◌≡◌, ℕ, ◌<◌, List, [], ◌∷◌, ◌++◌, refl, sym, ap, ◌∙◌, subst, Some, None, slice_get, nat_lt, inl, arith, length, rules}
use Rattle.std.specs.Prelude.{slice_set, Option}
use Rattle.std.proofs.lemmas.Option.{slice_get_past}
use Rattle.session_table.specs.private.Stands.{places_in, is_free, is_ready, is_updates, is_waiting, is_in_queue, is_made, is_here, has_some}
use Rattle.session_table.specs.Tabling.{flat}
use Rattle.session_table.specs.declared.pooled.PooledSession.{PooledSession}
use Rattle.session_table.specs.declared.place_state.PlaceState.TheVariants.{New, Away}
use Rattle.session_table.proofs.Standing.{stands_new, stays, same_of, push_each, made_next, not_below}
use Rattle.session_table.proofs.places.Places.make.Goals as goal

pub invariant_of-self-2 : goal.invariant_of-self-2
invariant_of-self-2 c =
    let s = c.args.self.now in
    let p = c.len-place.result in
    let n : ℕ = length s.sessions.items in
    let e : p ≡ n = omega arith in
    let within : p < length s.stands.items = omega arith in
    let stood : slice_get s.stands.items p ≡ Some New = stands_new s.stands.items p within (sym (s.made p)
    ∙ not_below p n (omega arith)) in
    let grown : c.push.new.self.items ≡ s.sessions.items ++ None ∷ [] = c.in-Ok.ensures.items in
    let here : (q : ℕ) → has_some (slice_get s.sessions.items q) ≡
    is_here (slice_get (slice_set s.stands.items p Away) q) =
    same_of is_here (λ q. has_some (slice_get s.sessions.items q)) s.stands.items p New Away stood refl s.here in
    record {
      frees = stays is_free s.stands.items p New Away stood s.free.items refl refl s.frees;
      readies = stays is_ready s.stands.items p New Away stood (places_in s.ready.queues) refl refl s.readies;
      updating = stays is_updates s.stands.items p New Away stood s.updates.items refl refl s.updating;
      waits = same_of is_waiting (λ q. is_in_queue (slice_get s.book q)) s.stands.items p New Away stood refl s.waits;
      here = subst (λ (gs : List (Option PooledSession)). (q : ℕ) → has_some (slice_get gs q) ≡
          is_here (slice_get (slice_set s.stands.items p Away) q)) (sym grown)
          (push_each (λ q g. has_some g ≡ is_here (slice_get (slice_set s.stands.items p Away) q)) s.sessions.items None
          (sym (ap has_some (slice_get_past s.sessions.items n (omega arith))) ∙ here n) here);
      own = subst (λ (gs : List (Option PooledSession)). (q : ℕ) (g : PooledSession) → slice_get gs q ≡
          Some (Some g) → g.place ≡ q) (sym grown)
          (push_each (λ q o. (g : PooledSession) → o ≡ Some (Some g) → g.place ≡ q) s.sessions.items None (λ g x. cc)
          s.own);
      made = subst (λ (r : ℕ). (q : ℕ) → nat_lt q (length c.push.new.self.items) ≡
          is_made (slice_get (slice_set s.stands.items r Away) q)) (sym e)
          (made_next s.stands.items n (omega arith) s.made (length c.push.new.self.items)
          (let k = c.in-Ok.ensures.len in omega arith));
      booked = search rules;
      room_free = search rules;
      room_ready = search rules;
      room_updates = search rules;
    }

pub returns-clause-ok : goal.returns-clause-ok
returns-clause-ok c =
    let s = c.args.self.now in
    let p = c.len-place.result in
    let n : ℕ = length s.sessions.items in
    let within : p < length s.stands.items = omega arith in
    let stood : slice_get s.stands.items p ≡ Some New = stands_new s.stands.items p within (sym (s.made p)
    ∙ not_below p n (omega arith)) in
    let grown : c.push.new.self.items ≡ s.sessions.items ++ None ∷ [] = c.in-Ok.ensures.items in
    record {
      free = inl stood;
      stands = refl;
      sessions = subst (λ (gs : List (Option PooledSession)). (q : ℕ) → flat (slice_get gs q) ≡
          flat (slice_get s.sessions.items q)) (sym grown)
          (push_each (λ q o. flat o ≡ flat (slice_get s.sessions.items q)) s.sessions.items None
          (sym (ap flat (slice_get_past s.sessions.items n (omega arith)))) (λ q. refl));
      spots = refl;
      ready = refl;
      updates = refl;
    }
