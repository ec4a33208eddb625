-- A request, and the primary's beat, from their parts.
use Rattle.std.proofs.Common.{◌≡◌, ◌≢◌, ℕ, ◌<◌, ◌≤◌, ◌==◌, nat_lt, nat_le, Bool, true, false, cond, ◌&&◌, ◌-◌, List, [], length, slice_get, Option, Some, Result, Ok, Err, refl, sym, ap, ap₂, ◌∙◌, eq-eqb, ne_eqb, le-ltb, lt-ltb}
use Rattle.std.proofs.lemmas.Bool.{le-leb, lt-leb}
use Rattle.std.specs.Result.{IfOk}
use Rattle.vr_normal.specs.private.Rules.{reply_again}
use Rattle.vr_state.specs.declared.message.PeerMessage.TheVariants.{Commit}
use Rattle.vr_state.specs.declared.message.Send.{Send}
use Rattle.vr_state.specs.Words.{LogEntry}
use Rattle.vr_state.specs.declared.words.Latest.{Latest}
use Rattle.vr_state.specs.declared.words.Reply.{Reply}
use Rattle.vr_state.specs.ClientTable.{latest}
use Rattle.vr_state.specs.NormalCase.{answer_again, ask_primary, beat_primary, on_request, prepare, prepare_again}
use Rattle.vr_state.specs.Outcome.{Outcome, idle, sending, to_all}
use Rattle.vr_state.specs.State.{State, leads}

-- A replica that doesn't lead drops it.
pub unled : {P : Type 0} (n i : ℕ) (r : State P) (e : LogEntry P) (sends : List (Send P)) (replies : List Reply) →
    false ≡ leads n i r r.view_number → sends ≡ [] → replies ≡ [] →
    ◌≡◌ {A = Outcome P} (record { state = r; sends = sends; replies = replies }) (on_request n i r e)
unled {P} n i r e sends replies isn't hs hr =
    let made : ◌≡◌ {A = Outcome P} (record { state = r; sends = sends; replies = replies }) (idle r) = λ j.
    record { state = r; sends = hs j; replies = hr j } in
    made ∙ ap (λ t. cond t (ask_primary n i r e (latest e.client r.log)) (idle r)) isn't

-- The primary goes by the latest of the client.
pub asked : {P : Type 0} (n i : ℕ) (r : State P) (e : LogEntry P) (o : Option Latest) {made : Outcome P} →
    true ≡ leads n i r r.view_number → o ≡ latest e.client r.log → made ≡ ask_primary n i r e o →
    made ≡ on_request n i r e
asked n i r e o is same m = m ∙ ap₂ (λ t x. cond t (ask_primary n i r e x) (idle r)) is same

-- One that is newer than that is prepared.
pub newer : {P : Type 0} (n i : ℕ) (r : State P) (e : LogEntry P) (last : Latest) {made : Outcome P} →
    last.request_number < e.request_number → made ≡ prepare n i r e → made ≡ ask_primary n i r e (Some last)
newer n i r e last lt m =
    m ∙ sym (ap (λ t. cond t (prepare n i r e) (cond (last.request_number == e.request_number
    && nat_le last.op_number r.commit_number) (answer_again r e last.op_number) (idle r)))
    (lt-ltb last.request_number e.request_number lt))

-- One that isn't, and isn't answered either, is dropped.
pub older : {P : Type 0} (n i : ℕ) (r : State P) (e : LogEntry P) (last : Latest) (sends : List (Send P))
    (replies : List Reply) → e.request_number ≤ last.request_number → (last.request_number == e.request_number
    && nat_le last.op_number r.commit_number) ≡ false → sends ≡ [] → replies ≡ [] →
    ◌≡◌ {A = Outcome P} (record { state = r; sends = sends; replies = replies }) (ask_primary n i r e (Some last))
older {P} n i r e last sends replies le isn't hs hr =
    let made : ◌≡◌ {A = Outcome P} (record { state = r; sends = sends; replies = replies }) (idle r) = λ j.
    record { state = r; sends = hs j; replies = hr j } in
    made ∙ sym (ap₂ (λ s t. cond s (prepare n i r e) (cond t (answer_again r e last.op_number) (idle r)))
    (le-ltb last.request_number e.request_number le) isn't)

-- The latest again, once it is committed.
pub latest_again : {P : Type 0} (n i : ℕ) (r : State P) (e : LogEntry P) (last : Latest) (sends : List (Send P))
    (replies : List Reply) → e.request_number ≤ last.request_number → last.request_number ≡ e.request_number →
    last.op_number ≤ r.commit_number → sends ≡ [] → replies ≡ reply_again e last.op_number →
    ◌≡◌ {A = Outcome P} (record { state = r; sends = sends; replies = replies }) (ask_primary n i r e (Some last))
latest_again {P} n i r e last sends replies le same in_time hs hr =
    let made : ◌≡◌ {A = Outcome P} (record { state = r; sends = sends; replies = replies })
    (answer_again r e last.op_number) = λ j. record { state = r; sends = hs j; replies = hr j } in
    let is : (last.request_number == e.request_number && nat_le last.op_number r.commit_number) ≡ true =
    ap₂ (λ s t. s && t) (eq-eqb last.request_number e.request_number same)
    (le-leb last.op_number r.commit_number in_time) in
    made ∙ sym (ap₂ (λ s t. cond s (prepare n i r e) (cond t (answer_again r e last.op_number) (idle r)))
    (le-ltb last.request_number e.request_number le) is)

-- not both, since the second isn't so
and_false : (b : Bool) → (b && false) ≡ false
and_false true = refl
and_false false = refl

-- It isn't answered, since it isn't committed.
pub too_early : (a b p k : ℕ) → k < p → (a == b && nat_le p k) ≡ false
too_early a b p k lt = ap (λ t. a == b && t) (lt-leb p k lt) ∙ and_false (a == b)

-- It isn't answered, since it isn't the latest.
pub another : (a b p k : ℕ) → a ≢ b → (a == b && nat_le p k) ≡ false
another a b p k ne = ap (λ t. t && nat_le p k) (ne_eqb a b ne)

-- Two things of what a call gives where it gives something.
pub if_both : {T E : Type 0} {P Q R : T → Type 0} (r : Result T E) → IfOk r P → IfOk r Q →
    ((x : T) → P x → Q x → R x) → IfOk r R
if_both (Ok x) p q f = f x p q
if_both (Err e) p q f = tt

-- A beat where something isn't committed.
pub beat_again : {P : Type 0} (n i : ℕ) (r : State P) (held : ℕ) (sends : List (Send P)) (replies : List Reply) →
    held ≡ length r.log → r.commit_number < held → sends ≡ prepare_again n i r (slice_get r.log (length r.log - 1)) →
    replies ≡ [] → ◌≡◌ {A = Outcome P} (record { state = r; sends = sends; replies = replies }) (beat_primary n i r)
beat_again {P} n i r held sends replies same lt hs hr =
    let made : ◌≡◌ {A = Outcome P} (record { state = r; sends = sends; replies = replies })
    (sending r (prepare_again n i r (slice_get r.log (length r.log - 1)))) = λ j. record {
      state = r;
      sends =
          hs j;
      replies = hr j;
    } in
    made ∙ sym (ap (λ t. cond t (sending r (prepare_again n i r (slice_get r.log (length r.log - 1))))
    (sending r (to_all n i (Commit r.view_number r.commit_number)))) (sym (ap (nat_lt r.commit_number) same)
    ∙ lt-ltb r.commit_number held lt))

-- A beat where all is committed.
pub beat_whole : {P : Type 0} (n i : ℕ) (r : State P) (held : ℕ) (sends : List (Send P)) (replies : List Reply) →
    held ≡ length r.log → held ≤ r.commit_number → sends ≡ to_all n i (Commit r.view_number r.commit_number) →
    replies ≡ [] → ◌≡◌ {A = Outcome P} (record { state = r; sends = sends; replies = replies }) (beat_primary n i r)
beat_whole {P} n i r held sends replies same le hs hr =
    let made : ◌≡◌ {A = Outcome P} (record { state = r; sends = sends; replies = replies })
    (sending r (to_all n i (Commit r.view_number r.commit_number))) = λ j. record {
      state = r;
      sends =
          hs j;
      replies = hr j;
    } in
    made ∙ sym (ap (λ t. cond t (sending r (prepare_again n i r (slice_get r.log (length r.log - 1))))
    (sending r (to_all n i (Commit r.view_number r.commit_number)))) (sym (ap (nat_lt r.commit_number) same)
    ∙ le-ltb r.commit_number held le))
