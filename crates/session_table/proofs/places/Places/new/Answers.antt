-- What search doesn't prove of `new`: the invariant, by lemmas of `Standing`.
use Rattle.std.proofs.Common.{◌≡◌, ℕ, List, [], refl, sym, ap, ◌∙◌, Some, None, false, Bool, slice_get, arith, length, rules}
use Rattle.std.specs.Prelude.{Option, replicate}
use Rattle.session_turns.specs.Turning.{TurnsValue, nobody}
use Rattle.session_turns.specs.declared.spot.Spot.{Spot}
use Rattle.session_turns.specs.declared.spot.Spot.TheVariants.{Away as SpotAway}
use Rattle.session_table.specs.private.Stands.{places_in, times, once, is_free, is_ready, is_updates, is_waiting, is_in_queue, is_made, is_here, has_some}
use Rattle.session_table.specs.declared.pooled.PooledSession.{PooledSession}
use Rattle.session_table.specs.declared.place_state.PlaceState.{PlaceState}
use Rattle.session_table.specs.declared.place_state.PlaceState.TheVariants.{New}
use Rattle.session_table.proofs.Standing.{not_below, replicate_each, length_same}
use Rattle.session_table.proofs.places.Places.new.Goals as goal

pub invariant_of-result : goal.invariant_of-result
invariant_of-result c =
    let n : ℕ = c.args.size in
    let st : c.in_ok-vec.field-0.items ≡ replicate n New = search rules in
    let bk : c.in_ok-new.field-0 ≡ replicate n SpotAway = c.in_ok-new.ensures in
    let turns : c.in_ok-new-2.field-0 ≡ nobody n = c.in_ok-new-2.ensures in
    let gs : c.new-2.result.items ≡ [] = c.new-2.ensures.items in
    let no : (is : PlaceState → Bool) → is New ≡ false → (q : ℕ) → once is (slice_get c.in_ok-vec.field-0.items q) ≡ 0 =
    λ is e q. ap (λ (ss : List PlaceState). once is (slice_get ss q)) st ∙ replicate_each (once is) 0 New refl
    (rw e refl) n q in
    let alike : (f : Option PlaceState → Bool) → f None ≡ false → f (Some New) ≡ false → (q : ℕ) →
    f (slice_get c.in_ok-vec.field-0.items q) ≡ false =
    λ f d e q. ap (λ (ss : List PlaceState). f (slice_get ss q)) st ∙ replicate_each f false New d e n q in
    record {
      frees = λ q. ap (times q) c.in_ok-with_capacity.ensures.items ∙ sym (no is_free refl q);
      readies = λ q. ap (λ (v : TurnsValue). times q (places_in v.queues)) turns ∙ sym (no is_ready refl q);
      updating = λ q. ap (times q) c.in_ok-with_capacity-2.ensures.items ∙ sym (no is_updates refl q);
      waits = λ q. ap (λ (xs : List Spot). is_in_queue (slice_get xs q)) bk ∙ replicate_each is_in_queue false
          SpotAway refl refl n q ∙ sym (alike is_waiting refl refl q);
      here = λ q. ap (λ (xs : List (Option PooledSession)). has_some (slice_get xs q)) gs
          ∙ sym (alike is_here refl refl q);
      own = λ q g e. let x : slice_get {X = Option PooledSession} [] q ≡ Some (Some g) = rw gs at e in cc;
      made = λ q. not_below q (length c.new-2.result.items) (let l = ap length gs in omega arith)
          ∙ sym (alike is_made refl refl q);
      booked = ap length bk ∙ length_same n SpotAway ∙ sym (length_same n New) ∙ sym (ap length st);
      room_free = let l = (ap length st ∙ length_same n New) in let k = c.in_ok-with_capacity.ensures.capacity
          in omega arith;
      room_ready = let l = (ap length st ∙ length_same n New) in let k = ap (λ (v : TurnsValue). v.room) turns
          in omega arith;
      room_updates = let l = (ap length st ∙ length_same n New) in let k = c.in_ok-with_capacity-2.ensures.capacity
          in omega arith;
    }
